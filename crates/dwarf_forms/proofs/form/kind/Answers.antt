use Rattle.std.proofs.Common.{rules, refl}
use Rattle.value_model.specs.Forms.{operand_of}
use Rattle.dwarf_forms.proofs.FormLemmas.{look_up-behind}
use Rattle.dwarf_forms.proofs.form.kind.Goals as goal

pub returns-in_default : goal.returns-in_default
unfolding operand_of
returns-in_default c = search (rules, look_up-behind, refl) depth 60
