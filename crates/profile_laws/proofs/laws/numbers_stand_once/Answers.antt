use Rattle.profile_laws.proofs.OnceLemmas.{numbers_stand_once}
use Rattle.profile_laws.proofs.laws.numbers_stand_once.Goals as goal

pub returns : goal.returns
returns c = numbers_stand_once
