use Rattle.std.proofs.Common.{◌≡◌, ◌+◌, ◌-◌, arith}
use Rattle.std.proofs.lemmas.Int.{ints}
use Rattle.dual_check.proofs.FitLemmas.{less_above, less_below}
use Rattle.dual_check.proofs.fits.cost_of_less.Goals as goal

pub returns-then-count-arc : goal.returns-then-count-arc
returns-then-count-arc c =
    let one : c.args.count ≡ (c.args.count - 1) + 1 = omega (arith, c.requires) in
    let step = less_below c.args.arc.now c.args.count (c.args.count - 1) one c.if-count-arc.true in omega (arith, ints, step, c.from.ensures)

pub returns-else-count-arc : goal.returns-else-count-arc
returns-else-count-arc c =
    let one : c.args.count ≡ (c.args.count - 1) + 1 = omega (arith, c.requires) in
    let step = less_above c.args.arc.now c.args.count (c.args.count - 1) one c.if-count-arc.false in
    omega (arith, ints, step, c.from-else-count-arc.ensures)
