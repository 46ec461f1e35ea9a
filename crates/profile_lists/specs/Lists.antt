-- The targets of keys.
use Rattle.std.specs.Prelude.{◌≡◌, ℕ, ◌==◌, Bool, ◌&&◌, nat_lt, List, filter, map}
use Rattle.std.specs.List.{list_any}
use Rattle.std.specs.List.Sorted.{IsStrictlySortedBy}
use Rattle.std.specs.Ordering.{nat_cmp, ordering_then}
use Rattle.std.specs.declared.cmp.Ordering.{Ordering}
use Rattle.profile_lists.specs.Pairs.{pair_of, sum_at, was_made}
use Rattle.profile_lists.specs.declared.lists.Target.{Target}
use Rattle.profile_lists.specs.declared.pairs.Call.{Call}
use Rattle.profile_lists.specs.declared.pairs.RankedCall.{RankedCall}

-- The target of a pair.
abbrev pub entry_of : RankedCall → Target
entry_of pair = record { key = pair.key; times = record { 0 = pair.times }; rank = pair.rank }

-- Targets go by key, then by how often they were called, the most often first, then by rank.
abbrev pub target_cmp : Target → Target → Ordering
target_cmp s t =
    ordering_then (nat_cmp s.key t.key)
    (ordering_then (nat_cmp t.times.0 s.times.0) (nat_cmp s.rank t.rank))

-- Whether a target is that of a key and a rank, called so often.
abbrev pub tells : ℕ → ℕ → ℕ → Target → Bool
tells key rank times target = target.key == key && (target.rank == rank && target.times.0 == times)

-- The targets ascend. They tell of each key and rank how often the function of that rank was called from that key,
-- if it was.
pub record AreTargets (ranks : List ℕ) (calls : List Call) (targets : List Target) : Type 0 where
  pub ascending : IsStrictlySortedBy target_cmp targets
  pub told : (key rank times : ℕ)
      → list_any (tells key rank times) targets
      ≡ (nat_lt 0 times && sum_at (map (pair_of ranks) (filter was_made calls)) key rank == times)
