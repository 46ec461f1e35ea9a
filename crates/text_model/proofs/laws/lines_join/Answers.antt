use Rattle.text_model.proofs.LawLemmas.{lines_join}
use Rattle.text_model.proofs.laws.lines_join.Goals as goal

pub returns : goal.returns
returns c = lines_join
