use Rattle.residual_model.proofs.CutLemmas.{closed_sides_are_a_cut}
use Rattle.residual_model.proofs.laws.closed_sides_are_a_cut.Goals as goal

pub returns : goal.returns
returns c = closed_sides_are_a_cut
