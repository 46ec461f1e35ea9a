use Rattle.std.proofs.Common.{◌+◌, ◌≤◌, length, map, take, drop}
use Rattle.profile_text.specs.Draft.{AreOld, TargetsSoFar}
use Rattle.profile_text.specs.Said.{pair_of}
use Rattle.profile_text.proofs.draft.put_targets.Given as goal

-- The targets up to here were put.
abbrev pub invariant-loop-target : goal.invariant-loop-target
invariant-loop-target l = record {
  few : length l.names ≤ length l.initial.names + l.target-index;
  longer : length l.initial.items.items ≤ length l.items.items;
  kept : AreOld l.initial.called (length l.initial.items.items) (length l.initial.names)
      → TargetsSoFar l.initial.names l.initial.items.items l.at l.key (map pair_of (take l.target-index l.targets))
      (map pair_of (drop l.target-index l.targets)) l.names l.called l.items.items;
}
