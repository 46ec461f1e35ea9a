use Rattle.std.proofs.Common.{length}
use Rattle.placed_view.specs.Reader.{start_of}
use Rattle.dwarf_abbrev.proofs.TableLemmas.{TableSoFar}
use Rattle.dwarf_abbrev.proofs.table.read_table.Given as goal

abbrev pub invariant-loop-rows : goal.invariant-loop-rows
invariant-loop-rows l = TableSoFar (start_of l.fn.part) l.rows l.cur

abbrev pub decreases-loop-rows : goal.decreases-loop-rows
decreases-loop-rows l = length l.cur.left
