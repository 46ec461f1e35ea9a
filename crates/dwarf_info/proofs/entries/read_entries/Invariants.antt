use Rattle.std.proofs.Common.{length}
use Rattle.dwarf_info.specs.Entries.{all_of}
use Rattle.dwarf_info.specs.Tails.{list_of}
use Rattle.dwarf_info.proofs.EntryLemmas.{EntriesSoFar}
use Rattle.dwarf_info.proofs.entries.read_entries.Given as goal

abbrev pub invariant-loop-of : goal.invariant-loop-of
invariant-loop-of l = EntriesSoFar (record { unit = l.of.unit; wide = l.of.shape.wide }) (list_of l.table) (all_of l.fn.entries) l.fn.cur l.entries l.depth l.cur

abbrev pub decreases-loop-of : goal.decreases-loop-of
decreases-loop-of l = length l.cur.left
