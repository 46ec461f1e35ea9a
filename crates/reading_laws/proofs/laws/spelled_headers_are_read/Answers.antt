use Rattle.reading_laws.proofs.HeaderLemmas.{spelled_headers-read}
use Rattle.reading_laws.proofs.laws.spelled_headers_are_read.Goals as goal

pub returns : goal.returns
returns c = spelled_headers-read
