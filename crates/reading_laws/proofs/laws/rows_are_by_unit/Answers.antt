use Rattle.reading_laws.proofs.ProgramLemmas.{rows-by_unit}
use Rattle.reading_laws.proofs.laws.rows_are_by_unit.Goals as goal

pub returns : goal.returns
returns c = rows-by_unit
