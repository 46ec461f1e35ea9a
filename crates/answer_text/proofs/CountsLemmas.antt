-- What sorted rows print is the text of what they tell of.
use Rattle.std.proofs.Common.{◌≡◌, ℕ, List, ◌++◌, IsPermutation, sym, ap, ◌∙◌}
use Rattle.std.specs.List.{flat_map}
use Rattle.std.specs.List.Sorted.{IsSorted}
use Rattle.std.proofs.lemmas.List.Folds.{flat_map-map}
use Rattle.sample_model.specs.Pairs.{times_of, distinct_pairs}
use Rattle.sample_model.specs.declared.pair.Pair.{Pair}
use Rattle.branch_counts.specs.Pair.{pair_cmp}
use Rattle.branch_counts.specs.Table.{pair_of, total_in, Tallies}
use Rattle.command_model.specs.Counts.{counts_line, counts_text, total_line}
use Rattle.branch_counts.specs.Laws.{told_of}
use Rattle.branch_counts.proofs.OrderLemmas.{rows_tally_in_any_order, sorted_rows_are_distinct_pairs}

abbrev pub row_line : Pair → List ℕ
row_line row = counts_line (pair_of row) row.times

told_line : (ℕ × ℕ) × ℕ → List ℕ
told_line told = counts_line told.0 told.1

pub rows_text : (pairs : List (ℕ × ℕ)) (rows sorted : List Pair) (total : ℕ) → Tallies pairs rows → IsPermutation rows sorted → IsSorted pair_cmp sorted → total ≡ total_in rows
    → flat_map row_line sorted ++ total_line total ≡ counts_text pairs
unfolding counts_text told_line
rows_text pairs rows sorted total tallies moves order total_is =
    let told = sorted_rows_are_distinct_pairs pairs sorted (rows_tally_in_any_order pairs rows sorted moves tallies) order in
    let lines : flat_map row_line sorted ≡ flat_map (λ p. counts_line p (times_of p pairs)) (distinct_pairs pairs) =
    sym (flat_map-map told_line told_of sorted) ∙ ap (flat_map told_line) told ∙ flat_map-map told_line (λ p. (p, times_of p pairs)) (distinct_pairs pairs) in
    ap (λ (t : List ℕ). t ++ total_line total) lines
    ∙ ap (λ (n : ℕ). flat_map (λ p. counts_line p (times_of p pairs)) (distinct_pairs pairs) ++ total_line n) (total_is ∙ tallies.total)
