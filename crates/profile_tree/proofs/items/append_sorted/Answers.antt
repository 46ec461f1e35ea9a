use Rattle.std.proofs.Common.{◌++◌, IsPermutation, subst, sym}
use Rattle.std.proofs.lemmas.List.Sorted.{IsPermutation-append_right}
use Rattle.profile_tree.proofs.items.append_sorted.Goals as goal

pub returns-clause-same : goal.returns-clause-same
returns-clause-same c =
    let items = c.args.items.now.items in
    let group = c.args.group.now.items in
    subst (IsPermutation (items ++ group)) (sym c.in_ok-append.ensures.items)
    (IsPermutation-append_right items group c.sort_items.new.items.items c.in_ok-sort_items.ensures.same)
