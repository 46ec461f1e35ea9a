use Rattle.scaling_model.proofs.CoarseLemmas.{shifts_halve}
use Rattle.scaling_model.proofs.laws.shifts_halve.Goals as goal

pub returns : goal.returns
returns c = shifts_halve
