-- How far a ledger rises.
use Rattle.std.proofs.Common.{◌≡◌, ℕ, ◌+◌, ◌^◌, ◌<◌, ◌≤◌, arith}
use Rattle.flow_model.specs.Network.{Network}
use Rattle.scaling_model.specs.Bound.{AreFew, StartWithin, most_digits, size_of}

-- there is room for what is counted
pub room_for_all : (net : Network) (ticks counted : ℕ) → StartWithin most_digits net → size_of net < 2 ^ 19 → ticks ≤ 2 ^ 63
    → AreFew net 0 counted → ticks + counted < 2 ^ 64
room_for_all net ticks counted within small room are =
    let few = (are most_digits within).few in
    omega (arith, small, room, few)

-- it rises by what is counted
pub told_few : (net : Network) (ticks ticks_now counted : ℕ) → ticks_now ≡ ticks + counted → AreFew net 0 counted → AreFew net ticks ticks_now
told_few net ticks ticks_now counted is are digits within =
    let few = (are digits within).few in
    record { later = omega (arith, is); few = omega (arith, is, few) }
