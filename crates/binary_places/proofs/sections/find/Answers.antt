use Rattle.binary_places.proofs.SectionLemmas.{find-judged}
use Rattle.binary_places.proofs.sections.find.Goals as goal

pub returns : goal.returns
returns c = find-judged c.args.elf.now c.args.name.now _ c.section.result c.requires c.section.ensures
