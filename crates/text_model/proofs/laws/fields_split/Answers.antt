use Rattle.text_model.proofs.LawLemmas.{fields_split}
use Rattle.text_model.proofs.laws.fields_split.Goals as goal

pub returns : goal.returns
returns c = fields_split
