use Rattle.dwarf_strings.specs.Meaning.{sections_of}
use Rattle.entry_facts.proofs.TextLemmas.{names_more}
use Rattle.entry_facts.proofs.texts.TextNumbers.of_held.Goals as goal

pub returns-in-None-clause-known : goal.returns-in-None-clause-known
returns-in-None-clause-known c =
    names_more (sections_of c.args.info.now.texts.now) c.args.info.now.units.now c.args.names.now c.numbered_name.new.names c.args.self.now c.numbered_name.ensures.names c.requires.known
