use Rattle.std.proofs.Common.{ℕ, ◌<◌, ◌≤ℤ◌, length, pos}
use Rattle.path_search.specs.Ground.{price_at}
use Rattle.flow_balance.proofs.excess.is_even.Given as goal

abbrev pub invariant-loop-one : goal.invariant-loop-one
invariant-loop-one l = (side : ℕ) → side < l.one-index → side < length l.excess → price_at l.excess side ≤ℤ pos 0
