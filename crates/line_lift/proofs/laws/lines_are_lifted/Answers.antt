use Rattle.line_lift.proofs.LawLemmas.{lines_are_lifted}
use Rattle.line_lift.proofs.laws.lines_are_lifted.Goals as goal

pub returns : goal.returns
returns c = lines_are_lifted
