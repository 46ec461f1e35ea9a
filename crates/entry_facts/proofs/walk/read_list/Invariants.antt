use Rattle.std.proofs.Common.{length}
use Rattle.dwarf_ranges.specs.Meaning.{range_sections_of}
use Rattle.dwarf_strings.specs.Meaning.{bases_of}
use Rattle.range_model.specs.Texts.{address_of}
use Rattle.entry_facts.specs.Walk.{IsReading}
use Rattle.entry_facts.proofs.walk.read_list.Given as goal

abbrev pub invariant-entries : goal.invariant-entries
invariant-entries l =
    let sections = range_sections_of l.fn.of.parts in
    IsReading l.fn.elf sections (address_of sections.texts (bases_of l.fn.of.bases)) l.fn.list.pairs l.fn.list.cur
    l.fn.of.base l.walk

abbrev pub decreases-entries : goal.decreases-entries
decreases-entries l = length l.walk.cur.left
