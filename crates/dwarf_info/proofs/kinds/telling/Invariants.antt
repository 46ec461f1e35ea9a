use Rattle.std.proofs.Common.{◌≡◌, ◌++◌, [], drop}
use Rattle.dwarf_info.specs.Telling.{telling_behind}
use Rattle.dwarf_info.proofs.kinds.telling.Given as goal

abbrev pub invariant-loop-attr : goal.invariant-loop-attr
invariant-loop-attr l = l.telling.items ++ telling_behind l.tag l.told.items (drop l.attr-index l.attrs) ≡ telling_behind l.tag [] l.attrs
