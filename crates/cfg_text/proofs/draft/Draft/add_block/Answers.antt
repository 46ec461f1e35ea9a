use Rattle.std.proofs.Common.{◌≤◌, length, ap, subst, ◌∙◌}
use Rattle.std.specs.List.{AllByRecursion}
use Rattle.block_model.specs.declared.parts.Block.{Block}
use Rattle.cfg_text.proofs.DraftLemmas.{block_taken, good_block, other_free, with_block_is, with_rising_is}
use Rattle.cfg_text.proofs.draft.Draft.add_block.Goals as goal

pub add-requires-clause-filled : goal.add-requires-clause-filled
add-requires-clause-filled c = (good_block c.args.self.now c.args.number c.args.block c.in_default.ensures).filled

pub add-requires-clause-free : goal.add-requires-clause-free
add-requires-clause-free c =
    let none = rw (← c.self.view_is) at c.in_default.ensures in
    other_free _ _ (block_taken _ _ _ _ _ _ c.args.block.lo c.args.block.hi c.self.invariant ∙ (good_block _ c.args.number c.args.block none).free)

pub invariant_of-self-then-all_end_by : goal.invariant_of-self-then-all_end_by
invariant_of-self-then-all_end_by c =
    let none = rw (← c.self.view_is) at c.in_default.ensures in
    let good = good_block _ c.args.number c.args.block none in
    let same = c.deref.ensures.value ∙ c.in_ok-try_reserve.ensures.items in
    rw (c.push_reserved.ensures.items, c.in_ok-try_reserve.ensures.items)
    (with_rising_is c.self.inside.blocks.items c.self.inside.edges.items c.self.inside.rising c.self.inside.taken c.self.inside.sorted c.self.inside.ways c.args.block
    c.self.invariant good.few (c.all_end_by.ensures.all c.if-all_end_by.true ∙ ap length same)
    (subst (AllByRecursion (λ (block : Block). block.hi ≤ c.args.block.lo)) same (c.all_end_by.ensures.behind c.if-all_end_by.true)) good.filled)

pub invariant_of-self-2 : goal.invariant_of-self-2
invariant_of-self-2 c =
    let none = rw (← c.self.view_is) at c.in_default.ensures in
    rw (c.push_reserved-2.ensures.items, c.in_ok-try_reserve.ensures.items)
    (with_block_is c.self.inside.blocks.items c.self.inside.edges.items c.self.inside.rising c.self.inside.taken c.add.new.self c.self.inside.sorted c.self.inside.ways c.args.block
    c.self.invariant (good_block _ c.args.number c.args.block none).few c.in_ok-add.ensures.added)
