use Rattle.key_types.proofs.NumberLemmas.{one_number_each}
use Rattle.key_types.proofs.laws.one_number_each.Goals as goal

pub returns-clause-names : goal.returns-clause-names
returns-clause-names c = one_number_each

pub returns-clause-keys : goal.returns-clause-keys
returns-clause-keys c = one_number_each
