use Rattle.dwarf_ranges.specs.Meaning.{range_sections_of}
use Rattle.dwarf_strings.specs.Meaning.{bases_of}
use Rattle.range_model.specs.Texts.{address_of}
use Rattle.entry_facts.proofs.walk.read_list.Goals as goal

pub with_rest-requires : goal.with_rest-requires
with_rest-requires c =
    let known = rw c.in-Some.is at (c.in_ok-rest.ensures c.args.elf.now c.requires.known c.entries.invariant.stands) in
    known.0

pub returns-in-Some : goal.returns-in-Some
returns-in-Some c =
    let sections = range_sections_of c.args.of.now.parts in
    let resolve = address_of sections.texts (bases_of c.args.of.now.bases) in
    let known = rw c.in-Some.is at (c.in_ok-rest.ensures c.args.elf.now c.requires.known c.entries.invariant.stands) in
    c.in_ok-with_rest.ensures c.args.elf.now sections resolve c.args.list.pairs c.args.list.cur c.args.of.now.base c.entries.invariant known.1
