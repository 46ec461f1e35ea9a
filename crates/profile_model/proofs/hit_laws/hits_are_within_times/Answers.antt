use Rattle.profile_model.proofs.HitLemmas.{hits_are_within_times}
use Rattle.profile_model.proofs.hit_laws.hits_are_within_times.Goals as goal

pub returns : goal.returns
returns c = hits_are_within_times
