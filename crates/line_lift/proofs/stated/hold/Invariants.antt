use Rattle.std.proofs.Common.{take}
use Rattle.line_lift.specs.Stated.{AreWithHeld}
use Rattle.line_lift.proofs.stated.hold.Given as goal

abbrev pub invariant-loop-id : goal.invariant-loop-id
invariant-loop-id l = AreWithHeld (take l.id l.held) l.initial.numbers l.numbers
