use Rattle.dwarf_strings.proofs.SectionLemmas.{slot-past}
use Rattle.dwarf_strings.proofs.section.slot.Goals as goal

pub returns-in_default : goal.returns-in_default
returns-in_default c =
    slot-past c.args.base c.args.section c.args.wide c.args.index c.in_ok-base.base c.place_of.result c.in_ok-section.section
    c.in_ok-base.ensures.ok_part c.in_ok-section.ensures.ok_part c.place_of.ensures c.in_default.ensures
