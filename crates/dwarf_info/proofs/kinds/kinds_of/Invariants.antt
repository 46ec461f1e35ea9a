use Rattle.std.proofs.Common.{◌≡◌, map, take}
use Rattle.dwarf_info.specs.Telling.{shortened}
use Rattle.dwarf_info.proofs.kinds.kinds_of.Given as goal

abbrev pub invariant-loop-index : goal.invariant-loop-index
invariant-loop-index l = l.kinds.items ≡ map shortened (take l.index l.table)
