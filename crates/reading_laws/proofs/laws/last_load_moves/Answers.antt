use Rattle.reading_laws.proofs.LoadLemmas.{last_load-moves}
use Rattle.reading_laws.proofs.laws.last_load_moves.Goals as goal

pub returns : goal.returns
returns c = last_load-moves
