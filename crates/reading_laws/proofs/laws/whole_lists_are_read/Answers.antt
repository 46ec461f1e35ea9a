use Rattle.reading_laws.proofs.ListLemmas.{whole_lists-read}
use Rattle.reading_laws.proofs.laws.whole_lists_are_read.Goals as goal

pub returns : goal.returns
returns c = whole_lists-read
