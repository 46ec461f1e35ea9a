use Rattle.reading_laws.proofs.ProgramLemmas.{rows_by_unit-read}
use Rattle.reading_laws.proofs.laws.rows_by_unit_are_read.Goals as goal

pub returns : goal.returns
returns c = rows_by_unit-read
