-- Calls by the ranks of their callees, added up.
use Rattle.std.specs.Prelude.{◌≡◌, ◌<◌, ℕ, ◌+◌, ◌==◌, Bool, ◌&&◌, nat_lt, All, List, [], ◌∷◌, slice_index, sum_by, cond}
use Rattle.std.specs.List.Sorted.{IsStrictlySortedBy}
use Rattle.std.specs.Ordering.{nat_cmp, ordering_then}
use Rattle.std.specs.declared.cmp.Ordering.{Ordering}
use Rattle.profile_lists.specs.declared.pairs.Call.{Call}
use Rattle.profile_lists.specs.declared.pairs.RankedCall.{RankedCall}

-- A call that was made at all.
abbrev pub was_made : Call → Bool
was_made call = nat_lt 0 call.times

-- A call by the rank of its callee.
abbrev pub pair_of : List ℕ → Call → RankedCall
pair_of ranks call = record { key = call.key.0; rank = slice_index ranks call.callee.0; times = call.times }

-- Whether a pair has a key and a rank.
abbrev pub is_at : ℕ → ℕ → RankedCall → Bool
is_at key rank pair = pair.key == key && pair.rank == rank

-- How often the function of a rank was called from a key.
abbrev pub times_at : ℕ → ℕ → RankedCall → ℕ
times_at key rank pair = cond (is_at key rank pair) pair.times 0

abbrev pub sum_at : List RankedCall → ℕ → ℕ → ℕ
sum_at pairs key rank = sum_by (times_at key rank) pairs

-- Pairs go by key, then by rank.
abbrev pub place_cmp : RankedCall → RankedCall → Ordering
place_cmp p q = ordering_then (nat_cmp p.key q.key) (nat_cmp p.rank q.rank)

-- Then by how often.
abbrev pub pair_cmp : RankedCall → RankedCall → Ordering
pair_cmp p q = ordering_then (nat_cmp p.key q.key) (ordering_then (nat_cmp p.rank q.rank) (nat_cmp p.times q.times))

-- A pair behind the last one, or added to it.
abbrev pub joined : RankedCall → RankedCall → List RankedCall
joined last pair =
    cond (is_at last.key last.rank pair)
    (record { key = last.key; rank = last.rank; times = last.times + pair.times } ∷ []) (last ∷ pair ∷ [])

abbrev pub with_pair : List RankedCall → RankedCall → List RankedCall
with_pair [] pair = pair ∷ []
with_pair (last ∷ []) pair = joined last pair
with_pair (first ∷ next ∷ pairs) pair = first ∷ with_pair (next ∷ pairs) pair

-- Each key and rank stands once, in order, with the sum of its pairs.
pub record AreMerged (pairs merged : List RankedCall) : Type 0 where
  pub ascending : IsStrictlySortedBy place_cmp merged
  pub made : All (λ pair. 0 < pair.times) merged
  pub sums : (key rank : ℕ) → sum_at merged key rank ≡ sum_at pairs key rank
