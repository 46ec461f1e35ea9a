use Rattle.std.proofs.Common.{◌≡◌, length}
use Rattle.sample_model.specs.Loads.{behind_ending}
use Rattle.branch_lines.proofs.load.behind_ending.Given as goal

abbrev pub invariant-loop-rest : goal.invariant-loop-rest
invariant-loop-rest l = behind_ending l.ending l.rest ≡ behind_ending l.ending l.text

abbrev pub decreases-loop-rest : goal.decreases-loop-rest
decreases-loop-rest l = length l.rest
