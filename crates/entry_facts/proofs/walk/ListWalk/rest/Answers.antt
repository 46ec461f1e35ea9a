use Rattle.std.proofs.Common.{sym}
use Rattle.dwarf_ranges.specs.Meaning.{range_sections_of}
use Rattle.dwarf_strings.specs.Meaning.{bases_of}
use Rattle.range_model.specs.Texts.{address_of}
use Rattle.entry_facts.specs.Lists.{IsRest}
use Rattle.entry_facts.proofs.WalkLemmas.{fits_behind}
use Rattle.entry_facts.proofs.walk.ListWalk.rest.Goals as goal

pub returns : goal.returns
returns c = λ file known stands.
    let sections = range_sections_of c.args.of.now.parts in
    let resolve = address_of sections.texts (bases_of c.args.of.now.bases) in
    let walk = c.args.self.now in
    fits_behind walk.passed (λ rest. IsRest file resolve c.args.pairs walk.cur walk.base rest.entries rest.live.items) c.rest_at.result
    c.if-self-gt-MAX_ENTRIES.false (c.rest_at.ensures file walk.cur known (sym c.at.ensures.place) stands)
