-- The repairs read and what is left are the text's.
use Rattle.std.proofs.Common.{length, map}
use Rattle.cfg_text.specs.Fun.{function_of}
use Rattle.repair_model.specs.Judging.{first_bad_of_repairs}
use Rattle.repair_model.specs.Text.{repairs_of}
use Rattle.repair_text.specs.Reading.{IsLeft, course_of, done_of}
use Rattle.repair_text.proofs.reading.read.Given as goal

abbrev pub invariant-loop-line : goal.invariant-loop-line
invariant-loop-line l =
    IsLeft l.file (first_bad_of_repairs l.file (map function_of l.funs) l.text) (repairs_of (map function_of l.funs) l.text)
    (done_of l.reading) (course_of l.reading) l.last l.lines

abbrev pub decreases-loop-line : goal.decreases-loop-line
decreases-loop-line l = length l.lines
