use Rattle.reading_laws.proofs.LoadLineLemmas.{loads-spelled}
use Rattle.reading_laws.proofs.laws.load_lines_are_spelled.Goals as goal

pub returns : goal.returns
returns c = loads-spelled
