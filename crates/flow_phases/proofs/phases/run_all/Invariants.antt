use Rattle.std.proofs.Common.{◌≡◌, ◌+◌, ◌*◌, length}
use Rattle.path_search.specs.Ground.{sides_of}
use Rattle.scaling_model.specs.Bound.{RisesWithin, size_of}
use Rattle.flow_phases.specs.Phase.{HasCome}
use Rattle.flow_phases.proofs.phases.run_all.Given as goal

abbrev pub invariant-loop-step : goal.invariant-loop-step
invariant-loop-step l = record {
  come : HasCome l.net l.digits l.step l.state;
  marked : length l.state.work.search.marks ≡ sides_of l.net;
  counted : RisesWithin ((l.step + 1) * (2 * size_of l.net)) l.fn.augmentations l.augmentations;
}
