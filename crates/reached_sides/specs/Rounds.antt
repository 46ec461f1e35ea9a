-- Marks by the rounds in which they were made.
use Rattle.std.specs.Prelude.{ℕ, ◌≤◌, ◌==◌, Option, None, Some, if◌then◌else◌}
use Rattle.reached_sides.specs.declared.mark.Mark.{Mark}
use Rattle.reached_sides.specs.declared.marks.Stamped.{Stamped}

-- The mark of a record; its rank is told where the side is settled.
abbrev pub mark_of : Stamped → Mark
mark_of stamped = record {
  distance = stamped.distance;
  arc = stamped.arc;
  way = stamped.way;
  rank = if stamped.settled then Some stamped.rank else None;
}

-- The mark, if it was made in this round.
abbrev pub made_in : ℕ → Stamped → Option Mark
made_in round stamped = if stamped.round == round then Some (mark_of stamped) else None

-- A mark is of no later round than this one.
abbrev pub IsUpTo : ℕ → Stamped → Type 0
IsUpTo round stamped = stamped.round ≤ round
