use Rattle.reading_laws.proofs.UnitLemmas.{bytes-have_one_unit}
use Rattle.reading_laws.proofs.laws.bytes_have_one_unit.Goals as goal

pub returns : goal.returns
returns c = bytes-have_one_unit
