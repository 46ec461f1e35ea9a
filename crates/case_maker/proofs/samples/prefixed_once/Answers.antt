use Rattle.case_maker.proofs.Joins.{once-written}
use Rattle.case_maker.proofs.samples.prefixed_once.Goals as goal

pub returns : goal.returns
returns c =
    once-written _ _ _ _ _ _ _ c.new-line.ensures.items c.in_ok-push_hex.ensures.appended
    c.in_ok-push_branch.ensures c.in_ok-push_branch-2.ensures c.in_ok-push.ensures.items
