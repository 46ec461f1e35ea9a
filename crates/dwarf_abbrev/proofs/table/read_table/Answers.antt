use Rattle.dwarf_abbrev.proofs.TableLemmas.{TableSoFar-none, TableSoFar-more, TableSoFar-end, TableSoFar-stop, judged_table}
use Rattle.dwarf_abbrev.proofs.table.read_table.Goals as goal

pub loop-rows-init : goal.loop-rows-init
loop-rows-init c = TableSoFar-none c.args.part c.new-rows.result c.new-cur.result c.new-rows.ensures.whole c.new-rows.ensures.table c.new-cur.ensures.at c.new-cur.ensures.left

pub loop-rows-preserved : goal.loop-rows-preserved
loop-rows-preserved c =
    TableSoFar-more _ _ _ _ _ c.in_ok-read_next.field-0 c.loop-rows.invariant c.if-branch.true c.in_ok-read_next.ensures.read c.in_ok-read_next.ensures.shorter

pub returns-in_err-read_next : goal.returns-in_err-read_next
returns-in_err-read_next c =
    TableSoFar-stop _ _ _ _ _ _ c.from_residual.result c.loop-rows.invariant c.in_err-read_next.ensures.read c.from_residual.ensures.1

pub invariant_of-result : goal.invariant_of-result
invariant_of-result c = (TableSoFar-end _ _ _ _ _ _ c.loop-rows.invariant c.if-branch.false c.in_ok-read_next.ensures.read).0

pub returns : goal.returns
returns c = judged_table _ _ _ (TableSoFar-end _ _ _ _ _ _ c.loop-rows.invariant c.if-branch.false c.in_ok-read_next.ensures.read).1
