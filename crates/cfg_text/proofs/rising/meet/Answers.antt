use Rattle.std.proofs.Common.{arith, sym}
use Rattle.cfg_text.proofs.RisingLemmas.{none_after, none_begun, meet_last}
use Rattle.cfg_text.proofs.rising.meet.Goals as goal

pub returns-then-end_by : goal.returns-then-end_by
returns-then-end_by c = sym (none_after c.args.lo c.args.hi c.args.blocks.now (c.end_by.ensures c.if-end_by.true))

pub returns-then-end-eq0 : goal.returns-then-end-eq0
returns-then-end-eq0 c = sym (none_begun c.args.lo c.args.hi c.args.blocks.now (λ k d inside. c.begun-end.ensures.others k d (omega (arith, c.if-end-eq0.true)) inside))

pub returns : goal.returns
returns c =
    meet_last c.args.lo c.args.hi c.begun-end.result c.args.blocks.now _ c.requires c.if-end-eq0.false c.begun-end.ensures.within c.begun-end.ensures.begun c.begun-end.ensures.others
