use Rattle.profile_tests.proofs.StatedLemmas.{five_at}
use Rattle.profile_tests.proofs.of_profile_tree.counts_of.Goals as goal

pub returns-clause-each : goal.returns-clause-each
returns-clause-each c = five_at _ _ _ _ _
