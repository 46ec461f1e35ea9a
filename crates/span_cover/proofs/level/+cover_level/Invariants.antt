use Rattle.std.proofs.Common.{◌-◌, length}
use Rattle.span_cover.specs.Levels.{LevelSoFar}
use Rattle.span_cover.proofs.level.+cover_level.Given as goal

abbrev pub decreases-cover_level : goal.decreases-cover_level
decreases-cover_level l = length l.members.now - l.first

abbrev pub invariant-loop-member : goal.invariant-loop-member
invariant-loop-member l = LevelSoFar l.members l.first l.depth l.spans.items l.at

abbrev pub decreases-loop-member : goal.decreases-loop-member
decreases-loop-member l = length l.members - l.at
