-- Rows that were taken out of counts show what was sampled.
use Rattle.std.proofs.Common.{◌≡◌, ◌≤◌, ℕ, true, List, IsPermutation, Option, sym, subst, arith}
use Rattle.std.proofs.lemmas.List.Sorted.{sum_by-IsPermutation}
use Rattle.sample_model.specs.Limits.{max_branches}
use Rattle.sample_model.specs.Moves.{LoadMap, ranges_by}
use Rattle.sample_model.specs.declared.pair.Pair.{Pair}
use Rattle.branch_counts.specs.Table.{Tallies, total_in}
use Rattle.branch_counts.specs.Tally.{Tally, Tells, counted, total_of}

pub ranges_told : (loading : Option LoadMap) (lines : List (List ℕ)) (tally : Tally) (ranges : List Pair)
    → tally.with_ranges ≡ true → Tells loading lines tally → ranges ≡ tally.ranges → Tallies (ranges_by loading lines) ranges
ranges_told loading lines tally ranges with_ranges tells same =
    subst (Tallies (ranges_by loading lines)) (sym same)
    (subst (λ b. Tallies (ranges_by loading (counted b lines)) tally.ranges) with_ranges tells.ranges)

pub branches_fit : (tally : Tally) (branches : List Pair) → IsPermutation tally.branches branches → total_of tally ≤ max_branches → total_in branches ≤ max_branches
branches_fit tally branches moved few = omega (arith, few, sum_by-IsPermutation (λ (row : Pair). row.times) tally.branches branches moved)

pub ranges_fit : (tally : Tally) (ranges : List Pair) → ranges ≡ tally.ranges → total_in tally.ranges ≤ total_of tally → total_of tally ≤ max_branches → total_in ranges ≤ max_branches
ranges_fit tally ranges same fewer few = subst (λ (rows : List Pair). total_in rows ≤ max_branches) (sym same) (omega (arith, fewer, few))
