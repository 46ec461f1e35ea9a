use Rattle.sample_model.proofs.JudgingLemmas.{bad_places_stay}
use Rattle.sample_model.proofs.laws.bad_places_stay.Goals as goal

pub returns : goal.returns
returns c = bad_places_stay
