use Rattle.std.specs.Prelude.{sum_by}
use Rattle.dwarf_ranges.specs.Meaning.{range_sections_of}
use Rattle.entry_facts.specs.Lists.{RemembersLists}
use Rattle.inline_tree.specs.Told.{Knows, source_of}
use Rattle.inline_tree.proofs.LoopLemmas.{UnitsSoFar}
use Rattle.inline_tree.proofs.tree.gather.Given as goal

abbrev pub invariant-loop-number : goal.invariant-loop-number
invariant-loop-number l =
    UnitsSoFar (source_of l.source) (sum_by (λ unit. unit.count) l.units) l.units l.number l.all.names l.all.members
    × Knows (source_of l.source) l.all.names l.all.origins
    × RemembersLists l.source.elf.now (range_sections_of l.source.parts.now) l.all.lists
