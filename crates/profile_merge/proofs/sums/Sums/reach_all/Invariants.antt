use Rattle.std.proofs.Common.{take}
use Rattle.profile_merge.specs.Sums.{AreSameSums, HavePlaces, StaySumsOf}
use Rattle.profile_merge.proofs.sums.Sums.reach_all.Given as goal

-- The numbers up to here have places.
abbrev pub invariant-loop-item : goal.invariant-loop-item
invariant-loop-item l = record {
  same : AreSameSums l.initial.self l.self;
  reached : HavePlaces l.self (take l.item-index l.items);
  given : StaySumsOf (take l.item-index l.items) l.initial.self l.self;
}
