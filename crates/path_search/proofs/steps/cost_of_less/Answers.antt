use Rattle.std.proofs.Common.{arith}
use Rattle.std.proofs.lemmas.Int.{ints}
use Rattle.residual_model.proofs.PushLemmas.{less_below}
use Rattle.path_search.proofs.steps.cost_of_less.Goals as goal

pub returns-then-count-arc-clause-value : goal.returns-then-count-arc-clause-value
returns-then-count-arc-clause-value c =
    let step = less_below c.args.arc.now c.args.count c.requires.some c.if-count-arc.true in
    omega (arith, ints, step, c.requires.cheap.cheap_down)
