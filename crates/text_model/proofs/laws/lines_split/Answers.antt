use Rattle.text_model.proofs.LawLemmas.{lines_split}
use Rattle.text_model.proofs.laws.lines_split.Goals as goal

pub returns : goal.returns
returns c = lines_split
