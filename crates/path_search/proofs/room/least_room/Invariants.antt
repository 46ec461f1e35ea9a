use Rattle.std.proofs.Common.{ℕ, ◌<◌, ◌≤◌, get_or}
use Rattle.path_search.specs.declared.step.Step.{Step}
use Rattle.path_search.specs.Path.{StepTakes}
use Rattle.path_search.proofs.room.least_room.Given as goal

abbrev pub invariant-loop-step : goal.invariant-loop-step
invariant-loop-step l = record {
  some : 0 < l.least;
  within : l.least ≤ l.most;
  takes : (k : ℕ) (d : Step) → k < l.step-index → StepTakes l.arcs l.counts l.least (get_or l.path k d);
  greatest : (amount : ℕ) → amount ≤ l.most
      → ((k : ℕ) (d : Step) → k < l.step-index → StepTakes l.arcs l.counts amount (get_or l.path k d)) → amount ≤ l.least;
}
