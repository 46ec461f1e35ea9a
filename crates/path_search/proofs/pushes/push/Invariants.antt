use Rattle.path_search.proofs.PathLemmas.{IsPushing}
use Rattle.path_search.proofs.pushes.push.Given as goal

abbrev pub invariant-loop-step : goal.invariant-loop-step
invariant-loop-step l = IsPushing l.amount l.path l.fn.counts l.counts l.step-index
