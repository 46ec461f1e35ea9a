use Rattle.entry_model.proofs.TableLemmas.{tables-read}
use Rattle.entry_model.proofs.laws.read_tables_are_spelled.Goals as goal

pub returns : goal.returns
returns c = tables-read
