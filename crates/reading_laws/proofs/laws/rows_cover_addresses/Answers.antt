use Rattle.reading_laws.proofs.SequenceLemmas.{rows-cover}
use Rattle.reading_laws.proofs.laws.rows_cover_addresses.Goals as goal

pub returns : goal.returns
returns c = rows-cover
