use Rattle.text_model.proofs.LawLemmas.{decimal_text_is_read}
use Rattle.text_model.proofs.laws.decimal_text_is_read.Goals as goal

pub returns : goal.returns
returns c = decimal_text_is_read
