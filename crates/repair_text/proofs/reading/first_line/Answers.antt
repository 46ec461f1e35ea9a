use Rattle.repair_text.proofs.ReadingLemmas.{first_flow, first_cut, no_first, no_line_first}
use Rattle.repair_text.proofs.reading.first_line.Goals as goal

pub returns-in_err-name : goal.returns-in_err-name
returns-in_err-name c = rw c.from_residual.ensures (no_line_first c.args.line.now c.in_err-name.ensures)

pub returns-in-Flow : goal.returns-in-Flow
returns-in-Flow c = first_flow c.args.line.now _ c.counts.result (rw c.in-Flow.is at c.in_ok-name.ensures) c.counts.ensures

pub returns-in-Cut : goal.returns-in-Cut
returns-in-Cut c = first_cut c.args.line.now _ _ c.sides.result (rw c.in-Cut.is at c.in_ok-name.ensures) c.sides.ensures

pub returns-in_default : goal.returns-in_default
returns-in_default c = no_first c.args.line.now c.in_ok-name.field-0 c.in_default.not-Flow c.in_default.not-Cut c.in_ok-name.ensures
