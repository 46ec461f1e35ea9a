use Rattle.cold_model.proofs.ColdLemmas.{none_besides}
use Rattle.cold_model.proofs.laws.without_more_keys_lines_are_as_ever.Goals as goal

pub returns : goal.returns
returns c = none_besides
