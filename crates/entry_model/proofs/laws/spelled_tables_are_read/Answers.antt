use Rattle.entry_model.proofs.TableLemmas.{tables-again}
use Rattle.entry_model.proofs.laws.spelled_tables_are_read.Goals as goal

pub returns : goal.returns
returns c = tables-again
