use Rattle.flow_balance.proofs.StateLemmas.{given_more, spent_more}
use Rattle.flow_balance.proofs.balancing.balance_side.Goals as goal

pub loop-excess-preserved : goal.loop-excess-preserved
loop-excess-preserved c =
    let now = c.in_ok-augment.ensures.augmented c.if-not-branch.false in
    record {
      given = given_more _ _ _ _ _ _ _ _ _ _ c.loop-excess.invariant.given now.given;
      spent = spent_more _ _ _ _ _ _ c.loop-excess.invariant.spent c.in_ok-augment.ensures.spent;
      marked = c.in_ok-augment.ensures.marked;
    }
