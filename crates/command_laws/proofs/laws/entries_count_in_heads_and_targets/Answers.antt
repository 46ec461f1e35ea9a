use Rattle.command_laws.proofs.EntryLemmas.{entries_count}
use Rattle.command_laws.proofs.laws.entries_count_in_heads_and_targets.Goals as goal

pub returns : goal.returns
returns c = entries_count
