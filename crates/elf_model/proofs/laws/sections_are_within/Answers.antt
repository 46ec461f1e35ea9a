use Rattle.elf_model.proofs.LawLemmas.{sections_are_within}
use Rattle.elf_model.proofs.laws.sections_are_within.Goals as goal

pub returns : goal.returns
returns c = sections_are_within
