use Rattle.std.proofs.Common.{◌≡◌, map, take}
use Rattle.context_map.specs.Maps.{entrance_of}
use Rattle.context_map.proofs.entrance.entrances_of.Given as goal

abbrev pub invariant-loop-member : goal.invariant-loop-member
invariant-loop-member l = l.made.items ≡ map entrance_of (take l.member-index l.members)
