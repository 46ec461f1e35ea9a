use Rattle.std.proofs.Common.{length}
use Rattle.dwarf_abbrev.proofs.AttrLemmas.{AttrsSoFar}
use Rattle.dwarf_abbrev.proofs.attr.read_attrs.Given as goal

abbrev pub invariant-loop-attr : goal.invariant-loop-attr
invariant-loop-attr l = AttrsSoFar l.fn.cur l.fn.attrs.items l.attrs.items l.cur

abbrev pub decreases-loop-attr : goal.decreases-loop-attr
decreases-loop-attr l = length l.cur.left
