use Rattle.range_model.specs.Texts.{address_of}
use Rattle.dwarf_strings.specs.Meaning.{bases_of, sections_of}
use Rattle.dwarf_ranges.specs.Meaning.{entry_of}
use Rattle.dwarf_ranges.proofs.WalkLemmas.{next-made}
use Rattle.dwarf_ranges.proofs.walk.next_step.Goals as goal

pub returns-in-Ok : goal.returns-in-Ok
returns-in-Ok c =
    next-made (address_of (sections_of c.args.texts.now) (bases_of c.args.bases.now)) c.args.pairs c.args.base c.at-at.result c.args.cur.now
    c.read_entry.new.cur (entry_of c.in-Ok-Some.entry) c.in-Ok.step
    (rw c.in-Ok-Some.field-0-is at c.in-Ok-Some.ensures.exact) c.read_entry.ensures.end c.at-at.ensures.place c.in-Ok.ensures
