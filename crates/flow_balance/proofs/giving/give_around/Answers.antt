use Rattle.std.proofs.Common.{refl}
use Rattle.path_search.proofs.RowLemmas.{row_placed}
use Rattle.flow_balance.proofs.StateLemmas.{given_more, given_none, spent_more, spent_none}
use Rattle.flow_balance.proofs.giving.give_around.Goals as goal

pub loop-place-init : goal.loop-place-init
loop-place-init c = (given_none _ _ _ _ c.requires.state, spent_none _ _)

pub give_over-requires-clause-inside : goal.give_over-requires-clause-inside
give_over-requires-clause-inside c =
    let state = c.loop-place.invariant.0.state in
    (row_placed (λ arc. arc.tail) _ _ _ _ _ _ refl state.ground.of_a_function state.ground c.leaving-place-items.ensures c.loop-place-test.true).within

pub loop-place-preserved : goal.loop-place-preserved
loop-place-preserved c = (
  given_more _ _ _ _ _ _ _ _ _ _ c.loop-place.invariant.0 c.give_over.ensures.given,
  spent_more _ _ _ _ _ _ c.loop-place.invariant.1 c.give_over.ensures.spent,
)
