use Rattle.std.proofs.Common.{◌≡◌, filter, map}
use Rattle.std.specs.List.{range_with_len}
use Rattle.profile_tree.specs.Standing.{has_mark}
use Rattle.profile_tree.proofs.standing.marked.Given as goal

abbrev pub invariant-loop-id : goal.invariant-loop-id
invariant-loop-id l = map (λ key. key.0) l.ids.items ≡ filter (has_mark l.keys l.marks) (range_with_len 0 l.id)
