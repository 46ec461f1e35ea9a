use Rattle.text_model.proofs.LawLemmas.{hex_text_is_read}
use Rattle.text_model.proofs.laws.hex_text_is_read.Goals as goal

pub returns : goal.returns
returns c = hex_text_is_read
