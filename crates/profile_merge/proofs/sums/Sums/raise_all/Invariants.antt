use Rattle.std.proofs.Common.{[], take}
use Rattle.profile_merge.specs.Sums.{AddsPart, HavePlaces, StaySumsOf}
use Rattle.profile_merge.proofs.sums.Sums.raise_all.Given as goal

-- The sums of the numbers up to here were raised.
abbrev pub invariant-loop-item : goal.invariant-loop-item
invariant-loop-item l = record {
  places : HavePlaces l.self l.items;
  added : AddsPart l.weight (take l.item-index l.items) l.initial.self l.self;
  given : StaySumsOf [] l.initial.self l.self;
}
