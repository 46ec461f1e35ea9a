use Rattle.std.proofs.Common.{arith}
use Rattle.std.proofs.lemmas.Int.{ints}
use Rattle.residual_model.proofs.PushLemmas.{more_above}
use Rattle.path_search.proofs.steps.cost_of_more.Goals as goal

pub returns-then-count-arc-clause-value : goal.returns-then-count-arc-clause-value
returns-then-count-arc-clause-value c =
    let step = more_above c.args.arc.now c.args.count c.if-count-arc.true in omega (arith, ints, step, c.requires.cheap_up)
