use Rattle.std.proofs.Common.{◌≡◌, take}
use Rattle.dwarf_info.specs.Tables.{room_of}
use Rattle.dwarf_info.proofs.kinds.room_of.Given as goal

abbrev pub invariant-loop-index : goal.invariant-loop-index
invariant-loop-index l = l.room ≡ room_of (take l.index l.table)
