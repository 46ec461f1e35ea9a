use Rattle.profile_model.proofs.HitLemmas.{largest_is_one}
use Rattle.profile_model.proofs.hit_laws.largest_is_one.Goals as goal

pub returns : goal.returns
returns c = largest_is_one
