use Rattle.clause_uses.proofs.RunLemmas.{and-at, good-first, if-at, two-opened}
use Rattle.clause_uses.proofs.run_faults.files_are_opened_in_order.Goals as goal

pub returns-clause-opens : goal.returns-clause-opens
returns-clause-opens c blocks repairs is = two-opened blocks repairs _ _ _ c.requires (if-at _ is c.run.ensures.opened)

pub returns-clause-good : goal.returns-clause-good
returns-clause-good c blocks repairs is unread = good-first _ blocks repairs (and-at _ is (c.run.ensures.good_before 2 unread))
