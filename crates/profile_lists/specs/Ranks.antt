-- Ranks: numbers that compare as names do.
use Rattle.std.specs.Prelude.{◌≡◌, ◌<◌, ℕ, List, [], length, slice_get, slice_index}
use Rattle.std.specs.Option.{unwrap_or}
use Rattle.std.specs.Cmp.Lexicographic.{slice_cmp}
use Rattle.std.specs.Ordering.{nat_cmp, ordering_then}
use Rattle.std.specs.declared.cmp.Ordering.{Ordering}

-- A name with its weight and its number.
abbrev pub Weighed : Type 0
Weighed = ℕ × List ℕ × ℕ

-- Names go by weight, then by their bytes, then by number.
abbrev pub entry_cmp : Weighed → Weighed → Ordering
entry_cmp e f = ordering_then (nat_cmp e.0 f.0) (ordering_then (slice_cmp nat_cmp e.1 f.1) (nat_cmp e.2 f.2))

-- The name of a number, with its weight.
abbrev pub entry_of : List (List ℕ) → List ℕ → ℕ → Weighed
entry_of names weights i = (slice_index weights i, unwrap_or (slice_get names i) [], i)

-- How the names of two numbers compare.
abbrev pub number_cmp : List (List ℕ) → List ℕ → ℕ → ℕ → Ordering
number_cmp names weights i j = entry_cmp (entry_of names weights i) (entry_of names weights j)

-- Each of the names that have a weight has a rank, and there are no more ranks than such names. The ranks compare as
-- the names do, and the number of the name of each rank is at hand.
pub record AreRanks (names : List (List ℕ)) (weights ranks ids : List ℕ) : Type 0 where
  pub len : length ranks ≡ length weights
  pub as_many : length ids ≡ length weights
  pub below : (i : ℕ) → i < length weights → slice_index ranks i < length ids
  pub back : (i : ℕ) → i < length weights → slice_index ids (slice_index ranks i) ≡ i
  pub known : (r : ℕ) → r < length ids → slice_index ids r < length weights
  pub order : (i j : ℕ) → i < length weights → j < length weights
      → nat_cmp (slice_index ranks i) (slice_index ranks j) ≡ number_cmp names weights i j
