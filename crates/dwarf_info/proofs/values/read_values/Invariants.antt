use Rattle.dwarf_info.proofs.ValueLemmas.{ValuesSoFar}
use Rattle.dwarf_info.proofs.values.read_values.Given as goal

abbrev pub invariant-loop-attr : goal.invariant-loop-attr
invariant-loop-attr l = ValuesSoFar l.shape.wide l.tag l.attrs l.fn.cur l.fn.found l.found l.cur l.first l.attr-index
