use Rattle.std.proofs.Common.{ap, sym, ◌∙◌, Some}
use Rattle.cfg_text.proofs.ReadingLemmas.{passes, begins_here, no_line, block_outside, edge_outside, end_alone}
use Rattle.cfg_text.proofs.text.begun.Goals as goal

pub returns-in_default : goal.returns-in_default
returns-in_default c = no_line c.args.file c.args.line _ c.in_default.ensures ∙ ap Some (sym c.on_line.ensures)

pub returns-in-Nothing : goal.returns-in-Nothing
returns-in-Nothing c = passes c.args.line _ (rw c.in-Nothing.is at c.in-Some.ensures)

pub returns-in-Begins : goal.returns-in-Begins
returns-in-Begins c = begins_here c.args.line _ (rw c.in-Begins.is at c.in-Some.ensures)

pub returns-in-Block : goal.returns-in-Block
returns-in-Block c = block_outside c.args.file c.args.line _ _ (rw c.in-Block.is at c.in-Some.ensures) ∙ ap Some (sym c.on_line-in-Block.ensures)

pub returns-in-Edge : goal.returns-in-Edge
returns-in-Edge c = edge_outside c.args.file c.args.line _ _ _ (rw c.in-Edge.is at c.in-Some.ensures) ∙ ap Some (sym c.on_line-in-Edge.ensures)

pub returns-in-Ends : goal.returns-in-Ends
returns-in-Ends c = end_alone c.args.file c.args.line (rw c.in-Ends.is at c.in-Some.ensures) ∙ ap Some (sym c.on_line-in-Ends.ensures)
