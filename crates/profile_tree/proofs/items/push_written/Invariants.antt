use Rattle.std.proofs.Common.{map}
use Rattle.profile_tree.proofs.ItemLemmas.{Taken}
use Rattle.profile_tree.specs.Items.{told_item}
use Rattle.profile_tree.proofs.items.push_written.Given as goal

abbrev pub invariant-loop-key : goal.invariant-loop-key
invariant-loop-key l =
    Taken l.keys l.counts l.ranks.total.now l.ranks.name.now l.written (map told_item l.initial.items.items) l.key-index l.items.items l.group.items
