use Rattle.std.proofs.Common.{◌≡◌, filter, map}
use Rattle.std.specs.List.{range_with_len}
use Rattle.profile_tree.specs.Items.{is_written}
use Rattle.profile_tree.proofs.items.numbered.Given as goal

abbrev pub invariant-loop-id : goal.invariant-loop-id
invariant-loop-id l = map (λ w. w.id) l.made.items ≡ filter (is_written l.numbers.counts l.numbers.calls l.besides) (range_with_len 0 l.id)
