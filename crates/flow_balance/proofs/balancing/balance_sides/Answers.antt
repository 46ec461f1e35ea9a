use Rattle.std.proofs.Common.{arith}
use Rattle.path_search.proofs.CostLemmas.{few_sides}
use Rattle.flow_balance.proofs.StateLemmas.{all_passed, side_passed}
use Rattle.flow_balance.proofs.balancing.balance_sides.Goals as goal

pub overflow_cast-side-end : goal.overflow_cast-side-end
overflow_cast-side-end c =
    let few = few_sides c.args.net.now c.requires.state.ground.of_a_function in
    search (arith, few, c.requires.state.ground.priced, c.requires.state.told)

pub returns-clause-even : goal.returns-clause-even
returns-clause-even c = λ yes all.
    let past = c.loop-side-test.false in
    let each = c.loop-side.invariant.given.later.each in
    all_passed _ _ _ _ _ _ _ _ _ _ _ _ c.loop-side.invariant (omega (arith, past, each)) all

pub loop-side-preserved : goal.loop-side-preserved
loop-side-preserved c =
    side_passed _ _ _ _ _ _ _ _ _ _ _ _ _ _ _ _ _ c.loop-side.invariant (c.in_ok-balance_side.ensures.given c.in-Even.is)
    c.in_ok-balance_side.ensures.spent c.in_ok-balance_side.ensures.marked (λ all. c.in_ok-balance_side.ensures.even c.in-Even.is)
