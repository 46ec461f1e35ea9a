use Rattle.std.proofs.Common.{◌≡◌, ◌∙◌, get_or, arith}
use Rattle.std.proofs.lemmas.List.{get_or_default}
use Rattle.profile_tree.proofs.Filled.{entry_fits}
use Rattle.profile_tree.specs.declared.head.Head.{Head}
use Rattle.profile_tree.proofs.sums.heads_of.Goals as goal

pub overflow_add-index_mut : goal.overflow_add-index_mut
overflow_add-index_mut c =
    let d : Head = record { name = record { 0 = 0 }; times = 0 } in
    let heads = c.args.heads.now in
    let i = c.loop-head.head-index in
    let low = c.requires.given i d c.loop-head-test.true in
    let most = entry_fits c.args.names i heads d c.loop-head.sums.items c.loop-head-test.true low c.loop-head.invariant in
    let id = (get_or heads i d).name.0 in
    let here : c.index_mut.result.now ≡ get_or c.loop-head.sums.items id 0 = c.index_mut.ensures.value ∙ get_or_default c.loop-head.sums.items id c.index_mut.result.now 0 (omega (arith, low, c.loop-head.invariant.len)) in
    omega (arith, most, here, c.requires.fit (get_or heads i d).name.0)
