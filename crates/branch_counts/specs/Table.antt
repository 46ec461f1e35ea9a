-- A table of pairs: a row for each distinct pair, with how often it stands.
use Rattle.std.specs.Prelude.{◌≡◌, ℕ, ◌+◌, ◌<◌, List, [], ◌∷◌, map, length, if◌then◌else◌}
use Rattle.std.specs.List.{AllByRecursion, sum_by}
use Rattle.sample_model.specs.Pairs.{same_pair, times_of}
use Rattle.sample_model.specs.declared.pair.Pair.{Pair}

-- What a table shows: its rows, and how many more fit without memory.
pub record Table : Type 0 where
  pub rows : List Pair
  pub room : ℕ

-- The pair of a row.
abbrev pub pair_of : Pair → ℕ × ℕ
pair_of row = (row.from, row.to)

-- How often a row says that a pair stands.
abbrev pub times_of_row : ℕ × ℕ → Pair → ℕ
times_of_row p row = if same_pair p (pair_of row) then row.times else 0

-- How often the rows say that a pair stands.
abbrev pub times_in : List Pair → ℕ × ℕ → ℕ
times_in rows p = sum_by (times_of_row p) rows

-- How many pairs the rows tell of, all in all.
abbrev pub total_in : List Pair → ℕ
total_in rows = sum_by (λ row. row.times) rows

-- No pair stands twice.
abbrev pub AllDistinct : List (ℕ × ℕ) → Type 0
AllDistinct [] = Unit {0}
AllDistinct (p ∷ pairs) = (times_of p pairs ≡ 0) × AllDistinct pairs

-- No pair has two rows, and each row is of a pair that stands somewhere.
pub record IsTable (rows : List Pair) : Type 0 where
  pub distinct : AllDistinct (map pair_of rows)
  pub positive : AllByRecursion (λ row. 0 < row.times) rows

-- The new rows tell of these pairs beside what the old rows told.
pub record AddsPairs (old new : List Pair) (pairs : List (ℕ × ℕ)) : Type 0 where
  pub table : IsTable old → IsTable new
  pub times : (p : ℕ × ℕ) → times_in new p ≡ times_in old p + times_of p pairs
  pub total : total_in new ≡ total_in old + length pairs

-- The rows tell of these pairs and no others.
pub record Tallies (pairs : List (ℕ × ℕ)) (rows : List Pair) : Type 0 where
  pub table : IsTable rows
  pub times : (p : ℕ × ℕ) → times_in rows p ≡ times_of p pairs
  pub total : total_in rows ≡ length pairs
