use Rattle.clause_uses.proofs.RunLemmas.{either, not-risen}
use Rattle.clause_uses.proofs.run_answers.a_bad_place_is_reported.Goals as goal

pub returns-clause-place : goal.returns-clause-place
returns-clause-place c due is none =
    either ((c.run.ensures.refused due).1 is)
    (λ j read. not-risen none.0 (c.run.ensures.read_fault j read).0) (λ written. not-risen none.1 (c.run.ensures.write_fault written).0)

pub returns-clause-only : goal.returns-clause-only
returns-clause-only c due = (c.run.ensures.refused due).0
