use Rattle.value_model.proofs.Spelled.{spellings-prefix_free}
use Rattle.value_model.proofs.laws.no_spelling_begins_another.Goals as goal

pub returns : goal.returns
returns c = spellings-prefix_free
