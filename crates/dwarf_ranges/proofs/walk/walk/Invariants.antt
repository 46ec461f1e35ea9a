use Rattle.std.proofs.Common.{length}
use Rattle.range_model.specs.Texts.{address_of}
use Rattle.dwarf_strings.specs.Meaning.{bases_of, sections_of}
use Rattle.dwarf_ranges.proofs.WalkLemmas.{SoFar}
use Rattle.dwarf_ranges.proofs.walk.walk.Given as goal

abbrev pub invariant-entries : goal.invariant-entries
invariant-entries l =
    SoFar (address_of (sections_of l.fn.texts) (bases_of l.fn.bases)) l.fn.list.pairs l.fn.first_base l.fn.list.cur
    l.cur l.base l.count l.ranges.items

abbrev pub decreases-entries : goal.decreases-entries
decreases-entries l = length l.cur.left
