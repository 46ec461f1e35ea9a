use Rattle.way_laws.proofs.RowLemmas.{rows_have_discriminators}
use Rattle.way_laws.proofs.laws.rows_have_discriminators.Goals as goal

pub returns : goal.returns
returns c = rows_have_discriminators
