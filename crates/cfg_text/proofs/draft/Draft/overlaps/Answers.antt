use Rattle.std.proofs.Common.{sym, ◌∙◌}
use Rattle.cfg_text.proofs.DraftLemmas.{block_taken, first_holds, other_holds}
use Rattle.cfg_text.proofs.draft.Draft.overlaps.Goals as goal

pub returns-then-meet : goal.returns-then-meet
returns-then-meet c =
    let is = rw c.deref.ensures.value at c.meet.ensures in
    rw (← c.self.view_is)
    (first_holds _ _ _ (sym is ∙ c.if-meet.true) (block_taken _ _ _ _ _ _ c.args.block.now.lo c.args.block.now.hi c.self.invariant))

pub returns : goal.returns
returns c =
    let is = rw c.deref.ensures.value at c.meet.ensures in
    rw (← c.self.view_is)
    (c.meet-2.ensures ∙ other_holds _ _ _ (sym is ∙ c.if-meet.false) (block_taken _ _ _ _ _ _ c.args.block.now.lo c.args.block.now.hi c.self.invariant))
