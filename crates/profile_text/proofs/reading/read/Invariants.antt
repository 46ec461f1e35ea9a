use Rattle.std.proofs.Common.{length}
use Rattle.profile_text.specs.Text.{IsLeft, whole_of}
use Rattle.profile_text.proofs.reading.read.Given as goal

-- What is left is left of the whole text.
abbrev pub invariant-loop-line : goal.invariant-loop-line
invariant-loop-line l = IsLeft l.file (whole_of l.file l.text l.fn.names l.fn.keys) l.names l.keys l.draft l.lines

abbrev pub decreases-loop-line : goal.decreases-loop-line
decreases-loop-line l = length l.lines
