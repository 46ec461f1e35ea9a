use Rattle.text_model.proofs.LawLemmas.{fields_join}
use Rattle.text_model.proofs.laws.fields_join.Goals as goal

pub returns : goal.returns
returns c = fields_join
