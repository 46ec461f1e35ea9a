use Rattle.reading_laws.proofs.LoadLemmas.{lines-moved_by_those_before}
use Rattle.reading_laws.proofs.laws.lines_are_moved_by_those_before.Goals as goal

pub returns : goal.returns
returns c = lines-moved_by_those_before
