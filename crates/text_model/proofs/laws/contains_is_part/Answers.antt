use Rattle.text_model.proofs.LineTestLemmas.{contains_is_part}
use Rattle.text_model.proofs.laws.contains_is_part.Goals as goal

pub returns : goal.returns
returns c = contains_is_part
