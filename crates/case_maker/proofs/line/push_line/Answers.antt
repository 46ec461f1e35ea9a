use Rattle.std.proofs.Common.{arith}
use Rattle.case_maker.proofs.Joins.{line-written, none_yet, one_more}
use Rattle.case_maker.proofs.line.push_line.Goals as goal

pub loop-k-init : goal.loop-k-init
loop-k-init c = none_yet _ _

pub loop-k-preserved : goal.loop-k-preserved
loop-k-preserved c = one_more _ _ _ _ _ c.loop-k.invariant (c.in_ok-push_sequence.ensures)

pub returns : goal.returns
returns c = line-written _ _ _ _ _ _ _ _ _ c.in_ok-push_u32.ensures c.length_field.ensures c.in_ok-push_u16.ensures c.in_ok-push_u32-2.ensures c.in_ok-push_header_fields.ensures c.loop-k.invariant (omega arith)
