use Rattle.clause_uses.proofs.RunLemmas.{and-wider, names-file, risen}
use Rattle.clause_uses.proofs.run_faults.a_read_fault_has_a_cause.Goals as goal

pub returns-clause-failed : goal.returns-clause-failed
returns-clause-failed c k is = risen (c.run.ensures.read_fault k is).0

pub returns-clause-file : goal.returns-clause-file
returns-clause-file c k is = and-wider _ _ _ (names-file k _ _) (c.run.ensures.read_fault k is).1
