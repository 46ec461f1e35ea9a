use Rattle.dwarf_ranges.specs.Meaning.{range_sections_of}
use Rattle.dwarf_ranges.specs.Walk.{IsNext}
use Rattle.dwarf_strings.specs.Meaning.{bases_of}
use Rattle.range_model.specs.Texts.{address_of}
use Rattle.entry_facts.proofs.WalkLemmas.{not_many, reading-more}
use Rattle.entry_facts.proofs.walk.ListWalk.step.Goals as goal

pub returns : goal.returns
returns c = λ start first_base reading.
    let sections = range_sections_of c.args.of.now.parts in
    let resolve = address_of sections.texts (bases_of c.args.of.now.bases) in
    let next : IsNext resolve c.args.pairs c.args.self.now.base c.args.self.now.cur c.next_step.new.cur c.in-Some.step = rw c.in-Some.is at c.in_ok-step.ensures in
    let few = not_many c.args.self.now.passed _ c.in_ok-refuse_if.ensures.0 in (
      reading-more c.args.elf.now sections resolve c.args.pairs start first_base c.args.self.now c.next_step.new.cur c.add_live.new.live c.in-Some.step
          reading next few c.in_ok-add_live.ensures,
      next.shorter,
    )
