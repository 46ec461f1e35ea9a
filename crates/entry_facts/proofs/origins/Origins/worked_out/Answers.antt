use Rattle.dwarf_strings.specs.Meaning.{sections_of}
use Rattle.entry_facts.specs.Meaning.{info_of}
use Rattle.entry_facts.proofs.MemoLemmas.{IsKnown-told, Remembers-added}
use Rattle.entry_facts.proofs.origins.Origins.worked_out.Goals as goal

pub returns-in_err-keep-clause-known : goal.returns-in_err-keep-clause-known
returns-in_err-keep-clause-known c =
    let sections = sections_of c.args.info.now.texts.now in
    let info = info_of c.args.info.now in
    Remembers-added sections info c.said.new.names c.said.new.self c.keep.new.self c.args.at c.in_ok-origin.origin c.said.ensures.known
    c.keep.ensures.added c.keep.ensures.texts
    (IsKnown-told sections info c.said.new.names c.args.began c.args.at c.args.next.now c.in_ok-origin.origin c.requires.begins c.in_ok-origin.ensures.told)

pub returns-clause-known : goal.returns-clause-known
returns-clause-known c =
    let sections = sections_of c.args.info.now.texts.now in
    let info = info_of c.args.info.now in
    Remembers-added sections info c.said.new.names c.said.new.self c.keep.new.self c.args.at c.in_ok-origin.origin c.said.ensures.known
    c.keep.ensures.added c.keep.ensures.texts
    (IsKnown-told sections info c.said.new.names c.args.began c.args.at c.args.next.now c.in_ok-origin.origin c.requires.begins c.in_ok-origin.ensures.told)
