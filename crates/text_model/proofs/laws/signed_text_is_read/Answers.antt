use Rattle.text_model.proofs.LawLemmas.{signed_text_is_read}
use Rattle.text_model.proofs.laws.signed_text_is_read.Goals as goal

pub returns : goal.returns
returns c = signed_text_is_read
