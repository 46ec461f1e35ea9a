use Rattle.reading_laws.proofs.ListLemmas.{lists-whole}
use Rattle.reading_laws.proofs.laws.lists_are_whole.Goals as goal

pub returns : goal.returns
returns c = lists-whole
