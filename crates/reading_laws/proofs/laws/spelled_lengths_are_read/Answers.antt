use Rattle.reading_laws.proofs.HeaderLemmas.{spelled_lengths-read}
use Rattle.reading_laws.proofs.laws.spelled_lengths_are_read.Goals as goal

pub returns : goal.returns
returns c = spelled_lengths-read
