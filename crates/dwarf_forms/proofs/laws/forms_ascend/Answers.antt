use Rattle.std.proofs.Common.{refl}
use Rattle.value_model.specs.Forms.{operand_of}
use Rattle.dwarf_forms.proofs.laws.forms_ascend.Goals as goal

pub returns-clause-read : goal.returns-clause-read
unfolding operand_of
returns-clause-read c = refl

pub returns-clause-others : goal.returns-clause-others
unfolding operand_of
returns-clause-others c = refl
