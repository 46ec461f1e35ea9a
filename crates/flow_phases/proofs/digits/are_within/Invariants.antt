use Rattle.std.proofs.Common.{ℕ, ◌^◌, ◌<◌, get_or, length}
use Rattle.flow_model.specs.declared.arc.Arc.{Arc}
use Rattle.residual_model.specs.Residual.{starting}
use Rattle.flow_phases.proofs.digits.are_within.Given as goal

abbrev pub invariant-loop-arc : goal.invariant-loop-arc
invariant-loop-arc l = (k : ℕ) (d : Arc) → k < l.arc-index → k < length l.arcs → starting (get_or l.arcs k d) < 2 ^ l.digits
