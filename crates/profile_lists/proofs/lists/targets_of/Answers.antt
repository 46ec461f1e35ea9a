use Rattle.std.proofs.Common.{◌≡◌, ◌<◌, All, IsPermutation, ap, sym, subst, ◌∙◌, map}
use Rattle.profile_lists.specs.Lists.{entry_of}
use Rattle.profile_lists.specs.Pairs.{AreMerged, sum_at}
use Rattle.profile_lists.proofs.ListLemmas.{all_made, are_targets, same_sums}
use Rattle.profile_lists.proofs.lists.targets_of.Goals as goal

pub merged-requires-clause-made : goal.merged-requires-clause-made
merged-requires-clause-made c =
    subst (All (λ p. 0 < p.times)) (sym c.deref.ensures.value) (all_made c.args.ranks.now c.args.calls.now c.in_ok-pairs.pairs.items c.sort_pairs.new.pairs.items c.in_ok-pairs.ensures c.sort_pairs.ensures.same)

pub merged-requires-clause-fit : goal.merged-requires-clause-fit
merged-requires-clause-fit c = λ key rank.
    subst (λ n. n < 18446744073709551616)
    (sym (ap (λ xs. sum_at xs key rank) c.deref.ensures.value ∙ same_sums c.in_ok-pairs.pairs.items c.sort_pairs.new.pairs.items c.sort_pairs.ensures.same key rank ∙ ap (λ xs. sum_at xs key rank) c.in_ok-pairs.ensures))
    (c.requires.fit key rank)

pub returns : goal.returns
returns c =
    let merged : AreMerged c.sort_pairs.new.pairs.items c.in_ok-merged.merged.items = subst (λ xs. AreMerged xs c.in_ok-merged.merged.items) c.deref.ensures.value c.in_ok-merged.ensures in
    let targets : c.in_ok-targets.targets.items ≡ map entry_of c.in_ok-merged.merged.items = c.in_ok-targets.ensures ∙ ap (map entry_of) c.deref-2.ensures.value in
    are_targets c.args.ranks.now c.args.calls.now c.in_ok-pairs.pairs.items c.sort_pairs.new.pairs.items c.in_ok-merged.merged.items c.sort_targets.new.targets.items
    c.in_ok-pairs.ensures c.sort_pairs.ensures.same merged (subst (λ xs. IsPermutation xs c.sort_targets.new.targets.items) targets c.sort_targets.ensures.same) c.in_ok-sort_targets.ensures.sorted
