use Rattle.clause_uses.proofs.RunLemmas.{counts-bad, counts-good, counts-missing, counts-written, either, not-risen}
use Rattle.clause_uses.proofs.run_one_file.one_file_is_counted.Goals as goal

pub returns-clause-missing : goal.returns-clause-missing
returns-clause-missing c name is missing none =
    either ((c.run.ensures.no_such_file 1).1 (counts-missing _ _ name is missing))
    (λ j read. not-risen none.0 (c.run.ensures.read_fault j read).0) (λ written. not-risen none.1 (c.run.ensures.write_fault written).0)

pub returns-clause-bad : goal.returns-clause-bad
returns-clause-bad c name bytes place is there bad none =
    either ((c.run.ensures.refused _).1 (counts-bad _ _ name bytes place is there bad))
    (λ j read. not-risen none.0 (c.run.ensures.read_fault j read).0) (λ written. not-risen none.1 (c.run.ensures.write_fault written).0)

pub returns-clause-good : goal.returns-clause-good
returns-clause-good c name bytes is there good none =
    c.run.ensures.complete _ _ (counts-good _ _ name bytes is there good) (not-risen none.0) (not-risen none.1)

pub returns-clause-output : goal.returns-clause-output
returns-clause-output c name bytes is there good done =
    counts-written _ name bytes _ _ (counts-good _ _ name bytes is there good) (c.run.ensures.done done)
