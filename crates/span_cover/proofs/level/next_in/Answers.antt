use Rattle.std.proofs.Common.{arith}
use Rattle.span_cover.proofs.CoverLemmas.{next-none, next-shallow, next-deep}
use Rattle.span_cover.proofs.level.next_in.Goals as goal

pub returns-then-depth_of-depth : goal.returns-then-depth_of-depth
returns-then-depth_of-depth c =
    next-shallow c.args.members.now c.args.at c.args.depth c.in-Some.member.now c.in-Some.ensures.lookup.3.0 c.in-Some.ensures.lookup.1
    (omega (arith, c.depth_of.ensures.depth, c.if-depth_of-depth.true))

pub returns : goal.returns
returns c =
    next-deep c.args.members.now c.args.at c.args.depth c.in-Some.member.now c.in-Some.ensures.lookup.3.0 c.in-Some.ensures.lookup.1
    (omega (arith, c.depth_of.ensures.depth, c.if-depth_of-depth.false))

pub returns-in_default : goal.returns-in_default
returns-in_default c = next-none c.args.members.now c.args.at c.args.depth c.in_default.ensures.lookup.3
