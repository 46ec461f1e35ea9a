use Rattle.std.specs.Prelude.{◌≡◌, ◌++◌, ℕ, List, All}
use Rattle.dwarf_strings.specs.Meaning.{bases_of}
use Rattle.range_model.specs.Lists.{RangeSections}
use Rattle.range_model.specs.Texts.{address_of}
use Rattle.entry_facts.specs.Lists.{RemembersLists}
use Rattle.entry_facts.specs.Walk.{IsMarked}
use Rattle.entry_facts.proofs.lists.Lists.keep.Given as goal

abbrev pub invariant-loop-mark : goal.invariant-loop-mark
invariant-loop-mark l =
    (l.self.live ≡ l.fn.self.live ++ l.fn.walked.live.items)
    × ((file : List ℕ) (sections : RangeSections)
    → All (IsMarked file sections (address_of sections.texts (bases_of l.fn.of.bases)) l.fn.pairs l.fn.walked.entries
    l.fn.walked.live.items) l.fn.walked.marks.items
    → RemembersLists file sections l.fn.self → RemembersLists file sections l.self)
