use Rattle.std.proofs.Common.{◌≡◌, length}
use Rattle.std.specs.Option.{option_map}
use Rattle.placed_view.specs.Reader.{start_of}
use Rattle.dwarf_info.proofs.UnitLemmas.{UnitsSoFar}
use Rattle.dwarf_info.proofs.units.read_section.Given as goal

abbrev pub invariant-loop-cur : goal.invariant-loop-cur
invariant-loop-cur l = (l.tables ≡ option_map start_of l.fn.«abbrev») × UnitsSoFar (option_map start_of l.fn.«abbrev») (start_of l.fn.part) l.so_far l.cur

abbrev pub decreases-loop-cur : goal.decreases-loop-cur
decreases-loop-cur l = length l.cur.left
