use Rattle.entry_model.proofs.EntryLemmas.{entries-again}
use Rattle.entry_model.proofs.laws.spelled_entries_are_read.Goals as goal

pub returns : goal.returns
returns c = entries-again
