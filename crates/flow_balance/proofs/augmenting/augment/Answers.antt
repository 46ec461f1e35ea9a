use Rattle.flow_balance.proofs.StateLemmas.{given_none, spent_none, taken_more}
use Rattle.flow_balance.proofs.augmenting.augment.Goals as goal

pub loop-found-init : goal.loop-found-init
loop-found-init c = record {
  given = given_none _ _ _ _ c.requires.state;
  spent = spent_none _ _;
  some = c.requires.some;
  gathers = c.requires.gathers;
  ended = c.in_ok-found.ensures.ended;
}

pub loop-found-preserved : goal.loop-found-preserved
loop-found-preserved c =
    let yes = c.if-not-branch.false in
    let taken = taken_more _ _ _ _ _ _ _ _ _ _ _ _ _ _ _ _ c.loop-found.invariant c.in_ok-augment_to.ensures.augmented
    c.in_ok-augment_to.ensures.one in
    record {
      given = taken.augmented_is.given;
      spent = taken.spent;
      some = c.in_ok-augment_to.ensures.some yes;
      gathers = (c.in_ok-augment_to.ensures.goes_on yes).gathers;
      ended = c.in_ok-found-2.ensures.ended;
    }

pub returns-then-not-branch-clause-augmented : goal.returns-then-not-branch-clause-augmented
returns-then-not-branch-clause-augmented c = λ found.
    let taken = taken_more _ _ _ _ _ _ _ _ _ _ _ _ _ _ _ _ c.loop-found.invariant c.in_ok-augment_to.ensures.augmented
    c.in_ok-augment_to.ensures.one in
    taken.augmented_is
