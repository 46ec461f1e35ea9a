use Rattle.sample_model.proofs.EntryLemmas.{entries_are_spelled}
use Rattle.sample_model.proofs.laws.entries_are_spelled.Goals as goal

pub returns : goal.returns
returns c = entries_are_spelled
