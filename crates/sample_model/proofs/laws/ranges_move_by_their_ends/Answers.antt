use Rattle.sample_model.proofs.MoveLemmas.{ranges_move_by_their_ends}
use Rattle.sample_model.proofs.laws.ranges_move_by_their_ends.Goals as goal

pub returns : goal.returns
returns c = ranges_move_by_their_ends
