use Rattle.std.proofs.Common.{◌≡◌, ◌++◌, map, take}
use Rattle.profile_tree.specs.Items.{entered, ranked_source, told_item}
use Rattle.profile_tree.proofs.items.push_entered.Given as goal

abbrev pub invariant-loop-head : goal.invariant-loop-head
invariant-loop-head l =
    map told_item l.items.items
    ≡ map told_item l.initial.items.items
    ++ map (ranked_source l.ranks.total.now l.ranks.name.now) (entered (take l.head-index l.heads))
