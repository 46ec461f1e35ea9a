use Rattle.std.proofs.Common.{ap}
use Rattle.dwarf_strings.specs.Meaning.{sections_of}
use Rattle.entry_facts.specs.Meaning.{info_of}
use Rattle.entry_facts.specs.Memo.{Kept}
use Rattle.entry_facts.proofs.MemoLemmas.{Remembers-texts}
use Rattle.entry_facts.proofs.origins.Origins.said.Goals as goal

pub returns-in_err-name-clause-known : goal.returns-in_err-name-clause-known
returns-in_err-name-clause-known c =
    Remembers-texts (sections_of c.args.info.now.texts.now) (info_of c.args.info.now) c.args.names.now c.number_said.new.names c.args.self.now
    (record { origins = c.self.inside.known.entries; texts = c.number_said.new.self })
    c.number_said.ensures.names c.requires.known (ap (λ (k : Kept). k.origins) c.self.view_is) c.number_said.ensures.known

pub returns-clause-known : goal.returns-clause-known
returns-clause-known c =
    Remembers-texts (sections_of c.args.info.now.texts.now) (info_of c.args.info.now) c.args.names.now c.number_said.new.names c.args.self.now
    (record { origins = c.self.inside.known.entries; texts = c.number_said.new.self })
    c.number_said.ensures.names c.requires.known (ap (λ (k : Kept). k.origins) c.self.view_is) c.number_said.ensures.known
