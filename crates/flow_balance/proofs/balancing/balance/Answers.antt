use Rattle.std.proofs.lemmas.Result.{IfOk-weaker}
use Rattle.flow_balance.proofs.StateLemmas.{later_more}
use Rattle.flow_balance.proofs.balancing.balance.Goals as goal

pub returns-in-Even-clause-later : goal.returns-in-Even-clause-later
returns-in-Even-clause-later c =
    let first = c.in_ok-balance_sides.ensures.given c.in-Even.is in
    IfOk-weaker c.balance_sides-in-Even.result _ _
    (λ end gives even. later_more _ _ _ _ _ _ _ _ _ first.later (gives even).later) c.balance_sides-in-Even.ensures.given
