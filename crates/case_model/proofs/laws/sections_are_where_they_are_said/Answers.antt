use Rattle.case_model.proofs.SizeLemmas.{places}
use Rattle.case_model.proofs.laws.sections_are_where_they_are_said.Goals as goal

pub returns : goal.returns
returns c = places
