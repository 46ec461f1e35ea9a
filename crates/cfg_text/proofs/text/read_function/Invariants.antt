-- What was left where the function began is left now, with what was read of it open.
use Rattle.std.proofs.Common.{◌≤◌, List, length, Option, Some}
use Rattle.refusal.specs.declared.place.Place.{Place}
use Rattle.block_model.specs.Function.{Function}
use Rattle.cfg_text.specs.Reading.{IsLeft, IsNumbered}
use Rattle.cfg_text.proofs.text.read_function.Given as goal

abbrev pub invariant-loop-line : goal.invariant-loop-line
invariant-loop-line l = record {
  kept : (bad : Option Place) (all done : List Function) → IsLeft l.file bad all done (Some l.fn.draft) l.at l.fn.lines
      → IsLeft l.file bad all done (Some l.draft) l.last l.lines;
  numbered : IsNumbered l.last l.lines;
  shorter : length l.lines ≤ length l.fn.lines;
}

abbrev pub decreases-loop-line : goal.decreases-loop-line
decreases-loop-line l = length l.lines
