use Rattle.std.proofs.Common.{◌≡◌, false, take}
use Rattle.std.specs.Prelude.{nat_le}
use Rattle.std.specs.List.{list_any}
use Rattle.dual_check.specs.Places.{first_return}
use Rattle.dual_check.proofs.sums.has_return.Given as goal

abbrev pub invariant-loop-place : goal.invariant-loop-place
invariant-loop-place l = list_any (nat_le (first_return l.net)) (take l.place-index l.places) ≡ false
