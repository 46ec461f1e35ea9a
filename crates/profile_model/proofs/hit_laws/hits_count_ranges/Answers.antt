use Rattle.profile_model.proofs.HitLemmas.{hits_count_ranges}
use Rattle.profile_model.proofs.hit_laws.hits_count_ranges.Goals as goal

pub returns : goal.returns
returns c = hits_count_ranges
