use Rattle.std.proofs.Common.{◌<◌, length, map, All, IsPermutation, ap, sym, subst, ◌∙◌, arith}
use Rattle.std.specs.List.{range_with_len}
use Rattle.profile_lists.specs.Ranks.{AreRanks}
use Rattle.profile_lists.proofs.RankLemmas.{are_ranks, permuted, ids_distinct, ids_length, ids_within}
use Rattle.profile_lists.proofs.ranks.ranks_of.Goals as goal

pub inverse-requires-clause-distinct : goal.inverse-requires-clause-distinct
inverse-requires-clause-distinct c =
    let is = c.deref-2.ensures.value ∙ c.in_ok-ids.ensures ∙ ap (map (λ e. e.id)) c.deref.ensures.value in
    ids_distinct (length c.args.weights.now) c.deref-2.result.now
    (permuted c.args.names.now c.args.weights.now c.in_ok-entries.entries.items c.sort_entries.new.entries.items c.deref-2.result.now c.in_ok-entries.ensures c.sort_entries.ensures.same is)

pub inverse-requires-clause-within : goal.inverse-requires-clause-within
inverse-requires-clause-within c =
    let is = c.deref-2.ensures.value ∙ c.in_ok-ids.ensures ∙ ap (map (λ e. e.id)) c.deref.ensures.value in
    let ids = c.deref-2.result.now in
    let n = length c.args.weights.now in
    let p : IsPermutation (range_with_len 0 n) ids = permuted c.args.names.now c.args.weights.now c.in_ok-entries.entries.items c.sort_entries.new.entries.items ids c.in_ok-entries.ensures c.sort_entries.ensures.same is in
    subst (λ m. All (λ i. i < m) ids) (sym (ids_length n ids p)) (ids_within n ids p)

pub inverse-requires-clause-few : goal.inverse-requires-clause-few
inverse-requires-clause-few c =
    let is = c.deref-2.ensures.value ∙ c.in_ok-ids.ensures ∙ ap (map (λ e. e.id)) c.deref.ensures.value in
    let ids = c.deref-2.result.now in
    let n = length c.args.weights.now in
    let p : IsPermutation (range_with_len 0 n) ids = permuted c.args.names.now c.args.weights.now c.in_ok-entries.entries.items c.sort_entries.new.entries.items ids c.in_ok-entries.ensures c.sort_entries.ensures.same is in
    omega (arith, ids_length n ids p, c.requires.few)

pub returns : goal.returns
returns c =
    let names = c.args.names.now in
    let weights = c.args.weights.now in
    let ids = c.deref-2.result.now in
    let is = c.deref-2.ensures.value ∙ c.in_ok-ids.ensures ∙ ap (map (λ e. e.id)) c.deref.ensures.value in
    let base : AreRanks names weights c.in_ok-ranks.ranks.items ids =
    are_ranks names weights c.in_ok-entries.entries.items c.sort_entries.new.entries.items ids c.in_ok-ranks.ranks.items c.in_ok-entries.ensures c.sort_entries.ensures.same c.in_ok-sort_entries.ensures.sorted is c.in_ok-ranks.ensures.len c.in_ok-ranks.ensures.back in
    subst (λ ranks. AreRanks names weights ranks c.new-2.result) (sym c.new.ensures)
    (subst (λ list. AreRanks names weights c.in_ok-ranks.ranks.items list) (c.deref-2.ensures.value ∙ sym c.new-2.ensures) base)
