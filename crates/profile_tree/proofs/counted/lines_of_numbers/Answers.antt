use Rattle.std.proofs.Common.{◌≡◌, ◌<◌, ◌^◌, ℕ, List, All, IsPermutation, arith, filter, get_or, length, map, ap, subst, sym, ◌∙◌}
use Rattle.std.proofs.lemmas.List.{length-replicate}
use Rattle.std.proofs.lemmas.Result.{IfOk-weaker}
use Rattle.cold_model.specs.Cold.{lines_with}
use Rattle.profile_tree.proofs.LineLemmas.{TellAll, all_told_from, targets_low}
use Rattle.profile_tree.proofs.ListLemmas.{all_places}
use Rattle.profile_tree.proofs.SumLemmas.{rank_sums_fit}
use Rattle.profile_tree.specs.Items.{ranked_source, sources, told_item}
use Rattle.profile_tree.specs.Known.{IsGiven}
use Rattle.profile_tree.specs.Numbers.{Numbers, numbers_said}
use Rattle.profile_tree.specs.Rows.{IsKnown, line_of}
use Rattle.profile_tree.specs.Said.{said, ways_said}
use Rattle.profile_tree.specs.Sums.{AreEach, entries_of}
use Rattle.profile_tree.specs.Told.{IsOf, told}
use Rattle.profile_tree.specs.declared.line.Line.{Line}
use Rattle.profile_tree.specs.declared.lines.Parts.{Parts}
use Rattle.profile_lists.specs.Lists.{AreTargets}
use Rattle.profile_lists.specs.Pairs.{pair_of, sum_at, was_made}
use Rattle.profile_tree.proofs.counted.lines_of_numbers.Goals.{After-deref-4}
use Rattle.profile_tree.proofs.counted.lines_of_numbers.Goals as goal

pub targets_of-requires-clause-ranked : goal.targets_of-requires-clause-ranked
targets_of-requires-clause-ranked c = λ k d low.
    let names = c.args.names.now in
    let given = subst (All (IsGiven (length c.args.keys.now) (length names))) (sym c.calls.ensures.same) c.requires.numbers.given.called k d low in
    let ranks : length c.as_slice-3.result.now ≡ length names = ap length c.as_slice-3.ensures ∙ c.in_ok-by_name.ensures.len ∙ length-replicate (length names) 0 in
    omega (arith, given.1, ranks)

pub targets_of-requires-clause-fit : goal.targets_of-requires-clause-fit
targets_of-requires-clause-fit c =
    let names = c.args.names.now in
    subst (λ xs. (key rank : ℕ) → sum_at (map (pair_of xs) (filter was_made c.calls.result.now)) key rank < 2 ^ 64) (sym c.as_slice-3.ensures)
    (rank_sums_fit names c.in_ok-by_name.by_name.ranks c.in_ok-by_name.by_name.ids (record { ranks = c.in_ok-by_name.ensures }) c.calls.result.now (length c.args.keys.now)
    (subst (All (IsGiven (length c.args.keys.now) (length names))) (sym c.calls.ensures.same) c.requires.numbers.given.called) c.calls.ensures.fit)

pub lines_of-requires-clause-targets : goal.lines_of-requires-clause-targets
lines_of-requires-clause-targets c =
    targets_low c.args.names.now c.args.keys.now c.args.numbers.now.calls c.args.numbers.now.heads c.in_ok-by_name.by_name.ranks c.as_slice-3.result.now c.in_ok-by_name.by_name.ids c.in_ok-targets.targets
    (record { names_apart = c.requires.names; keys_apart = c.requires.keys; given = c.requires.numbers.given })
    c.in_ok-by_name.ensures c.as_slice-3.ensures (subst (λ calls. AreTargets c.as_slice-3.result.now calls c.in_ok-targets.targets) c.calls.ensures.same c.in_ok-targets.ensures)

-- the lines that are told, by the parts that they are made of
module _ (c : After-deref-4) where
  abbrev names : List (List ℕ)
  names = c.args.names.now

  abbrev numbers : Numbers
  numbers = c.args.numbers.now

  abbrev parts : Parts
  parts = record {
    by_total = record { ref_ptr = c.args.names.ref_ptr; now = c.in_ok-by_total.by_total };
    by_name = record { ref_ptr = c.args.names.ref_ptr; now = c.in_ok-by_name.by_name };
    heads = c.deref-3.result;
    counts = c.counts-counts.result;
    targets = record { ref_ptr = c.args.names.ref_ptr; now = c.in_ok-targets.targets };
  }

  all : TellAll names parts c.deref-4.result.now (lines_with (ways_said names c.args.keys.now c.args.besides.now) (numbers_said names c.args.keys.now numbers))
  all =
      subst (λ counts. TellAll names parts c.deref-4.result.now (lines_with (ways_said names c.args.keys.now c.args.besides.now) (said names c.args.keys.now counts numbers.calls numbers.heads)))
      c.counts-counts.ensures
      (all_told_from names c.args.keys.now numbers.calls c.args.besides.now numbers.heads parts
      (record { names_apart = c.requires.names; keys_apart = c.requires.keys; given = c.requires.numbers.given }) c.requires.besides
      c.len.ensures c.in_ok-totals.ensures c.deref.ensures.value c.in_ok-by_total.ensures c.in_ok-by_name.ensures c.as_slice.ensures c.as_slice-2.ensures
      (subst (λ counts. IsPermutation (map told_item c.in_ok-items.items.items) (map (ranked_source c.as_slice.result.now c.as_slice-2.result.now) (sources c.args.keys.now counts numbers.calls c.args.besides.now numbers.heads))) (sym c.counts-counts.ensures) c.in_ok-items.ensures)
      c.in_ok-sort_items.ensures.same c.deref-2.ensures.value c.in_ok-rows.ensures c.deref-4.ensures.value c.as_slice-3.ensures
      (subst (λ calls. AreTargets c.as_slice-3.result.now calls c.in_ok-targets.targets) c.calls.ensures.same c.in_ok-targets.ensures)
      c.len-2.ensures (subst (λ heads. AreEach c.len-2.result (entries_of heads) c.in_ok-heads.heads.items) c.heads.ensures.same c.in_ok-heads.ensures) c.deref-3.ensures.value
      (ap length c.counts-counts.ensures ∙ c.requires.numbers.len))

pub lines_of-requires-clause-rows : goal.lines_of-requires-clause-rows
lines_of-requires-clause-rows c =
    let before = (goal.at.lines_of-requires-clause-rows c).After-deref-4 in
    all_places (IsKnown (parts before)) c.deref-4.result.now (all before).known

pub returns-clause-lines : goal.returns-clause-lines
returns-clause-lines c =
    let before = (goal.at.returns-clause-lines c).After-deref-4 in
    IfOk-weaker c.lines_of.result _ _ (λ lines is. ap (map (told (names before))) is ∙ (all before).are) c.lines_of.ensures

pub returns-clause-names : goal.returns-clause-names
returns-clause-names c =
    let before = (goal.at.returns-clause-names c).After-deref-4 in
    IfOk-weaker c.lines_of.result _ _
    (λ lines is. subst (λ xs. (k : ℕ) (d : Line) → k < length xs → IsOf (names before) (get_or xs k d)) (sym is)
    (all_places (IsOf (names before)) (map (line_of (parts before)) c.deref-4.result.now) (all before).named))
    c.lines_of.ensures
