use Rattle.std.proofs.Common.{◌≡◌, ◌==◌, ap, sym, subst, ◌∙◌, arith, filter, nat_lt, true, false, length, IsSorted, rules}
use Rattle.std.proofs.lemmas.List.Sorted.{IsPartitionPoint-from_clause}
use Rattle.std.specs.List.Sorted.{IsPartitionPoint, IsPartitionedBy}
use Rattle.profile_lists.proofs.ListLemmas.{lower_parted, of_key}
use Rattle.profile_lists.specs.Lists.{target_cmp}
use Rattle.profile_lists.proofs.lists.Targets.of_key.Goals as goal

pub returns : goal.returns
returns c =
    let key = c.args.key in
    let xs = c.deref.result.now in
    let ys = c.deref-2.result.now in
    let start = c.partition_point-start.result in
    let sorted_inside : IsSorted target_cmp c.self.inside.targets.items = c.self.invariant in
    let view : c.self.inside.targets.items ≡ c.args.self.now = c.self.view_is in
    let sorted : IsSorted target_cmp ys = subst (IsSorted target_cmp) (sym c.deref-2.ensures.value) sorted_inside in
    let same : xs ≡ ys = c.deref.ensures.value ∙ sym c.deref-2.ensures.value in
    let parted : IsPartitionedBy (λ t. nat_lt t.key key) xs = subst (IsPartitionedBy (λ t. nat_lt t.key key)) (sym same) (lower_parted key ys sorted) in
    let low : IsPartitionPoint (λ t. nat_lt t.key key ≡ true) (λ t. nat_lt t.key key ≡ false) xs start =
    IsPartitionPoint-from_clause (λ t. nat_lt t.key key) _ _ c.partition_point-start.ensures.partitioned parted (λ a r q k. search rules) in
    c.first_of.ensures
    ∙ of_key key ys start sorted (omega (arith, ap length same, c.partition_point-start.ensures.bound))
    (subst (λ zs. IsPartitionPoint (λ t. nat_lt t.key key ≡ true) (λ t. nat_lt t.key key ≡ false) zs start) same low)
    ∙ ap (filter (λ t. t.key == key)) (c.deref-2.ensures.value ∙ view)
