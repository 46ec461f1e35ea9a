use Rattle.profile_laws.proofs.OnceLemmas.{numbers_stand_once}
use Rattle.merge_laws.proofs.GoodLemmas.{order_is_no_matter}
use Rattle.merge_laws.proofs.laws.order_is_no_matter.Goals as goal

pub returns : goal.returns
returns c = order_is_no_matter numbers_stand_once
