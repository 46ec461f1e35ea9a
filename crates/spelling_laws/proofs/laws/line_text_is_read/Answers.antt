use Rattle.spelling_laws.proofs.ReadLemmas.{line_text_is_read}
use Rattle.spelling_laws.proofs.laws.line_text_is_read.Goals as goal

pub returns : goal.returns
returns c = line_text_is_read
