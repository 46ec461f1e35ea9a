use Rattle.chain_model.proofs.ChainLemmas.{are_paths, begin_with_the_function}
use Rattle.chain_model.proofs.laws.chains_are_paths.Goals as goal

pub returns-clause-function : goal.returns-clause-function
returns-clause-function c = begin_with_the_function

pub returns-clause-path : goal.returns-clause-path
returns-clause-path c = are_paths
