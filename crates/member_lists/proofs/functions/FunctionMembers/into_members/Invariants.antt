use Rattle.std.proofs.Common.{◌≡◌, ◌++◌, length}
use Rattle.std.specs.List.{flat_map}
use Rattle.std.specs.Vec.Iter.{into_iter_items, into_iter_len}
use Rattle.member_lists.proofs.functions.FunctionMembers.into_members.Given as goal

-- The members so far and those of the lists that are left are all members.
abbrev pub invariant-loop-list : goal.invariant-loop-list
invariant-loop-list l = record {
  joined : l.all.items ++ flat_map (λ list. list.items) (into_iter_items l.list-iterator)
      ≡ flat_map (λ list. list.items) (into_iter_items l.initial.list-iterator);
  long : into_iter_len l.list-iterator ≡ length (into_iter_items l.list-iterator);
}
