use Rattle.tree_model.proofs.DownLemmas.{read-entries_go_down}
use Rattle.tree_model.proofs.laws.read_entries_go_down.Goals as goal

pub returns : goal.returns
returns c = read-entries_go_down
