-- The functions read and what is left are the text's.
use Rattle.std.proofs.Common.{ℕ, length, map, None}
use Rattle.block_model.specs.Judging.{first_bad_of_text}
use Rattle.block_model.specs.Text.{functions_of}
use Rattle.cfg_text.specs.Fun.{function_of}
use Rattle.cfg_text.specs.Reading.{IsLeft}
use Rattle.cfg_text.proofs.text.read.Given as goal

abbrev pub invariant-loop-line : goal.invariant-loop-line
invariant-loop-line l = (at : ℕ) × IsLeft l.file (first_bad_of_text l.file l.text) (functions_of l.text) (map function_of l.funs.items) None at l.lines

abbrev pub decreases-loop-line : goal.decreases-loop-line
decreases-loop-line l = length l.lines
