use Rattle.clause_uses.proofs.RunLemmas.{either, not-risen}
use Rattle.clause_uses.proofs.run_answers.a_missing_file_is_reported.Goals as goal

pub returns-clause-number : goal.returns-clause-number
returns-clause-number c due is none =
    either ((c.run.ensures.no_such_file due).1 is)
    (λ j read. not-risen none.0 (c.run.ensures.read_fault j read).0) (λ written. not-risen none.1 (c.run.ensures.write_fault written).0)

pub returns-clause-only : goal.returns-clause-only
returns-clause-only c due = (c.run.ensures.no_such_file due).0
