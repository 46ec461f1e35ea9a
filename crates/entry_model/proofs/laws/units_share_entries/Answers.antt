use Rattle.entry_model.proofs.OrderLemmas.{units-share_entries}
use Rattle.entry_model.proofs.laws.units_share_entries.Goals as goal

pub returns : goal.returns
returns c = units-share_entries
