use Rattle.std.proofs.Common.{arith}
use Rattle.case_maker.proofs.Joins.{info-written, none_yet, one_more}
use Rattle.case_maker.proofs.info.push_info.Goals as goal

pub loop-k-init : goal.loop-k-init
loop-k-init c = none_yet _ _

pub loop-k-preserved : goal.loop-k-preserved
loop-k-preserved c = one_more _ _ _ _ _ c.loop-k.invariant (c.in_ok-push_function.ensures)

pub returns : goal.returns
returns c = info-written _ _ _ _ _ _ _ _ c.in_ok-push_u32.ensures c.length_field.ensures c.in_ok-push_front.ensures c.loop-k.invariant (omega arith) c.in_ok-push.ensures.items
