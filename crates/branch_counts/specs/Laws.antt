-- What a table tells of the list that it was made of.
use Rattle.std.specs.Prelude.{◌≡◌, ℕ, Bool, List, IsPermutation, count_by, filter, map, sum_by}
use Rattle.std.specs.List.Sorted.{IsSorted}
use Rattle.sample_model.specs.Pairs.{distinct_pairs, times_of}
use Rattle.sample_model.specs.declared.pair.Pair.{Pair}
use Rattle.branch_counts.specs.Pair.{pair_cmp}
use Rattle.branch_counts.specs.Table.{Tallies, pair_of}

-- How often the rows say that pairs of a kind stand.
abbrev pub times_where : (ℕ × ℕ → Bool) → List Pair → ℕ
times_where test rows = sum_by (λ row. row.times) (filter (λ row. test (pair_of row)) rows)

-- Where rows tell of the pairs of a list, they tell of each kind how many members are of it.
abbrev pub TablesCountMembers : Type 0
TablesCountMembers =
    (pairs : List (ℕ × ℕ)) (rows : List Pair) (test : ℕ × ℕ → Bool)
    → Tallies pairs rows → times_where test rows ≡ count_by test pairs

-- A row as a pair with how often it stands.
abbrev pub told_of : Pair → (ℕ × ℕ) × ℕ
told_of row = (pair_of row, row.times)

-- Rows that tell of the pairs of a list and stand in order are its distinct pairs, each with how often it stands.
abbrev pub SortedRowsAreDistinctPairs : Type 0
SortedRowsAreDistinctPairs =
    (pairs : List (ℕ × ℕ)) (rows : List Pair) → Tallies pairs rows → IsSorted pair_cmp rows
    → map told_of rows ≡ map (λ p. (p, times_of p pairs)) (distinct_pairs pairs)

-- Rows tell the same in any order.
abbrev pub RowsTallyInAnyOrder : Type 0
RowsTallyInAnyOrder =
    (pairs : List (ℕ × ℕ)) (rows others : List Pair)
    → IsPermutation rows others → Tallies pairs rows → Tallies pairs others
