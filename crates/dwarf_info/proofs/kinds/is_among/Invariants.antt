use Rattle.std.proofs.Common.{◌≡◌, take, false}
use Rattle.dwarf_info.specs.Telling.{is_among}
use Rattle.dwarf_info.proofs.kinds.is_among.Given as goal

abbrev pub invariant-loop-other : goal.invariant-loop-other
invariant-loop-other l = is_among (take l.other-index l.names) l.name ≡ false
