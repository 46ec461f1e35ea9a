use Rattle.elf_sections.proofs.Texts.{EndsAt-last, EndsAt-none}
use Rattle.elf_sections.proofs.names.end_of_texts.Goals as goal

pub returns-in-None : goal.returns-in-None
returns-in-None c = EndsAt-none c.args.table.now c.in-None.ensures

pub returns-in-Some : goal.returns-in-Some
returns-in-Some c = EndsAt-last c.args.table.now c.in-Some.last c.in-Some.ensures
