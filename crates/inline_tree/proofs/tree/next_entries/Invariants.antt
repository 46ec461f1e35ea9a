use Rattle.std.proofs.Common.{◌≤◌}
use Rattle.dwarf_ranges.specs.Meaning.{range_sections_of}
use Rattle.entry_facts.specs.Lists.{RemembersLists}
use Rattle.entry_facts.specs.Told.{in_unit}
use Rattle.tree_model.specs.Pieces.{max_pieces}
use Rattle.tree_model.specs.Tree.{entries_of_unit}
use Rattle.inline_tree.specs.Told.{Knows, source_of}
use Rattle.inline_tree.proofs.LoopLemmas.{EntriesSoFar, GrowsSoFar}
use Rattle.inline_tree.proofs.tree.next_entries.Given as goal

abbrev pub invariant-loop-entry : goal.invariant-loop-entry
invariant-loop-entry l = record {
  read : EntriesSoFar (source_of l.source) (in_unit l.of) (entries_of_unit l.source.units.now.entries l.unit) l.fn.all.names l.fn.all.members
      l.entry-iterator l.all.names l.all.members;
  grown : GrowsSoFar l.unit.count l.fn.all.names l.entry-iterator l.all.names;
  few : l.all.members.pieces ≤ max_pieces;
  known : Knows (source_of l.source) l.all.names l.all.origins;
  lists : RemembersLists l.source.elf.now (range_sections_of l.of.parts) l.all.lists;
}
