use Rattle.std.proofs.Common.{sym}
use Rattle.dwarf_strings.specs.Meaning.{sections_of}
use Rattle.entry_facts.specs.Meaning.{held_of}
use Rattle.entry_facts.proofs.TextLemmas.{names_added, names_more, number_told, numbered}
use Rattle.entry_facts.proofs.texts.TextNumbers.of_text_at.Goals as goal

pub returns-in-Some-clause-told : goal.returns-in-Some-clause-told
returns-in-Some-clause-told c =
    number_told (sections_of c.args.info.now.texts.now) c.args.info.now.units.now c.args.names.now (held_of c.args.held) c.args.place c.in-Some.number
    c.requires.stands (c.requires.known c.args.place c.in-Some.number (sym c.in-Some.ensures))

pub returns-in_err-number-clause-known : goal.returns-in_err-number-clause-known
returns-in_err-number-clause-known c =
    names_more (sections_of c.args.info.now.texts.now) c.args.info.now.units.now c.args.names.now c.numbered_name.new.names c.args.self.now c.numbered_name.ensures.names c.requires.known

pub returns-in_err-keep-clause-known : goal.returns-in_err-keep-clause-known
returns-in_err-keep-clause-known c =
    let sections = sections_of c.args.info.now.texts.now in
    names_added sections c.args.info.now.units.now c.numbered_name.new.names c.args.self.now c.keep.new.self c.args.place c.in_ok-number.number
    (names_more sections c.args.info.now.units.now c.args.names.now c.numbered_name.new.names c.args.self.now c.numbered_name.ensures.names c.requires.known)
    c.keep.ensures
    (numbered sections c.args.info.now.units.now c.numbered_name.new.names (held_of c.args.held) c.args.place c.in_ok-number.number c.requires.stands c.in_ok-number.ensures.told)

pub returns-clause-known : goal.returns-clause-known
returns-clause-known c =
    let sections = sections_of c.args.info.now.texts.now in
    names_added sections c.args.info.now.units.now c.numbered_name.new.names c.args.self.now c.keep.new.self c.args.place c.in_ok-number.number
    (names_more sections c.args.info.now.units.now c.args.names.now c.numbered_name.new.names c.args.self.now c.numbered_name.ensures.names c.requires.known)
    c.keep.ensures
    (numbered sections c.args.info.now.units.now c.numbered_name.new.names (held_of c.args.held) c.args.place c.in_ok-number.number c.requires.stands c.in_ok-number.ensures.told)
