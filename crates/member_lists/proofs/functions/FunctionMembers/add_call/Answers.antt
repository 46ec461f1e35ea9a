use Rattle.std.proofs.Common.{arith}
use Rattle.member_lists.proofs.ListLemmas.{with_call-at, with_call-past}
use Rattle.member_lists.proofs.functions.FunctionMembers.add_call.Goals as goal

pub returns-in_ok-push : goal.returns-in_ok-push
returns-in_ok-push c =
    with_call-at (λ list. list.items) _ _ _ _ _ _ _ c.in-Some.is c.self.view_is (omega arith) c.index_mut.ensures.value c.in_ok-push.ensures.items

pub returns-else-number-len : goal.returns-else-number-len
returns-else-number-len c =
    with_call-past (λ list. list.items) _ _ _ c.self.inside.lists.items _ c.in-Some.is c.self.view_is (omega arith)
