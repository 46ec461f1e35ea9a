use Rattle.chain_model.proofs.KeyLemmas.{keys_are_there}
use Rattle.chain_model.proofs.laws.keys_are_where_names_and_line_are.Goals as goal

pub returns : goal.returns
returns c = keys_are_there
