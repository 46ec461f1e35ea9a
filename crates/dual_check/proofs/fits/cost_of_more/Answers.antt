use Rattle.std.proofs.Common.{arith}
use Rattle.std.proofs.lemmas.Int.{ints}
use Rattle.dual_check.proofs.FitLemmas.{more_above, more_below}
use Rattle.dual_check.proofs.fits.cost_of_more.Goals as goal

pub returns-then-count-arc : goal.returns-then-count-arc
returns-then-count-arc c =
    let step = more_above c.args.arc.now c.args.count c.if-count-arc.true in omega (arith, ints, step, c.from.ensures)

pub returns-else-count-arc : goal.returns-else-count-arc
returns-else-count-arc c =
    let step = more_below c.args.arc.now c.args.count c.if-count-arc.false in omega (arith, ints, step, c.from-else-count-arc.ensures)
