use Rattle.std.proofs.Common.{◌≡◌, ◌≤◌, take}
use Rattle.profile_merge.specs.Functions.{AreMarked, different, roots}
use Rattle.profile_merge.proofs.functions.functions_of.Given as goal

-- The functions of the numbers up to here were counted and marked.
abbrev pub invariant-loop-item : goal.invariant-loop-item
invariant-loop-item l = record {
  few : l.functions ≤ l.item-index;
  count : l.functions ≡ different (roots l.keys (take l.item-index l.items));
  marked : AreMarked l.seen (roots l.keys (take l.item-index l.items));
}
