-- Sides at distances: rows of one distance each, and entries of a heap that gives its greatest entry first.
use Rattle.std.specs.Prelude.{ℕ, ◌≡◌, ◌<◌, ◌+◌, ◌-◌, ◌^◌, List, [], ◌∷◌, ◌++◌, length, map, slice_index_or}
use Rattle.std.specs.BinaryHeap.{IsHeap}
use Rattle.std.specs.Ordering.{nat_cmp, ordering_then}

-- A side is nearer the greater the first number is: the greatest distance of all less the side's.
abbrev pub by_distance : ℕ × ℕ → ℕ × ℕ
by_distance entry = ((2 ^ 64 - 1) - entry.0, entry.1)

-- A heap of entries in which the nearest side comes first.
abbrev pub IsNearestFirst : List (ℕ × ℕ) → Type 0
IsNearestFirst entries = IsHeap (λ x y. ordering_then (nat_cmp x.0 y.0) (nat_cmp x.1 y.1)) entries

-- A side at a distance.
abbrev pub at_distance : ℕ → ℕ → ℕ × ℕ
at_distance distance side = (distance, side)

-- The sides of rows from a distance on, of which each one is that of the distance after the one before.
abbrev pub rows_from : ℕ → List (List ℕ) → List (ℕ × ℕ)
rows_from distance [] = []
rows_from distance (row ∷ rows) = map (at_distance distance) row ++ rows_from (distance + 1) rows

-- The rows below a place have no sides.
abbrev pub AreEmptyBelow : ℕ → List (List ℕ) → Type 0
AreEmptyBelow place rows = (k : ℕ) → k < place → slice_index_or rows k [] ≡ []

-- Of rows from a distance on, each one that has sides is that of a distance of 64 bits.
abbrev pub HaveDistances : ℕ → List (List ℕ) → Type 0
HaveDistances distance rows = (k : ℕ) → 0 < length (slice_index_or rows k []) → distance + k < 2 ^ 64
