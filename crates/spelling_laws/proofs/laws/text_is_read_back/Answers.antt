use Rattle.spelling_laws.proofs.BackLemmas.{text_is_read_back}
use Rattle.spelling_laws.proofs.laws.text_is_read_back.Goals as goal

pub returns : goal.returns
returns c = text_is_read_back
