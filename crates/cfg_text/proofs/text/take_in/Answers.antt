use Rattle.std.proofs.Common.{ap, sym, ◌∙◌, Some}
use Rattle.cfg_text.proofs.ReadingLemmas.{passes, no_line, begins_inside, ends_empty, ends_here, block_taken, edge_taken}
use Rattle.cfg_text.proofs.text.take_in.Goals as goal

pub returns-in_default : goal.returns-in_default
returns-in_default c = no_line c.args.file c.args.line _ c.in_default.ensures ∙ ap Some (sym c.on_line.ensures)

pub returns-in-Nothing : goal.returns-in-Nothing
returns-in-Nothing c = passes c.args.line _ (rw c.in-Nothing.is at c.in-Some.ensures)

pub returns-in-Block : goal.returns-in-Block
returns-in-Block c = block_taken c.args.file c.args.line c.args.draft.now _ _ _ _ _ (rw c.in-Block.is at c.in-Some.ensures) c.add_block.ensures c.goes_on.ensures

pub returns-in-Edge : goal.returns-in-Edge
returns-in-Edge c = edge_taken c.args.file c.args.line c.args.draft.now _ _ _ _ _ _ (rw c.in-Edge.is at c.in-Some.ensures) c.add_edge.ensures c.goes_on-in-Edge.ensures

pub returns-in-Ends : goal.returns-in-Ends
returns-in-Ends c = ends_empty c.args.file c.args.line c.args.draft.now (rw c.in-Ends.is at c.in-Some.ensures) c.if-is_empty.ensures ∙ ap Some (sym c.on_line-in-Ends.ensures)

pub returns-in-Ends-2 : goal.returns-in-Ends-2
returns-in-Ends-2 c = ends_here c.args.line c.args.draft.now (rw c.in-Ends-2.is at c.in-Some.ensures) c.if-is_empty.ensures

pub returns-in-Begins : goal.returns-in-Begins
returns-in-Begins c = begins_inside c.args.file c.args.line c.args.draft.now _ (rw c.in-Begins.is at c.in-Some.ensures) ∙ ap Some (sym c.on_line-in-Begins.ensures)
