use Rattle.std.proofs.Common.{ℕ, ◌≤◌}
use Rattle.scaling_model.specs.Bound.{StartWithin}
use Rattle.flow_phases.proofs.digits.digits_of.Given as goal

abbrev pub invariant-loop-digits : goal.invariant-loop-digits
invariant-loop-digits l = (fewer : ℕ) → StartWithin fewer l.net → l.digits ≤ fewer
