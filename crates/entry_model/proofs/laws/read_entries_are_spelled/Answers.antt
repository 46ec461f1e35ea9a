use Rattle.entry_model.proofs.EntryLemmas.{entries-read}
use Rattle.entry_model.proofs.laws.read_entries_are_spelled.Goals as goal

pub returns : goal.returns
returns c = entries-read
