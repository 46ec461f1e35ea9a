use Rattle.dwarf_info.proofs.ValueLemmas.{ValuesSoFar-none}
use Rattle.dwarf_info.proofs.values.read_values.Goals as goal

pub loop-attr-init : goal.loop-attr-init
loop-attr-init c = ValuesSoFar-none _ _ _ _ _ _ c.len-first.ensures
