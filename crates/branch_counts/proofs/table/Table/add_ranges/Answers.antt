use Rattle.std.proofs.Common.{ℕ, ap, arith, length, length-drop}
use Rattle.branch_counts.proofs.TableLemmas.{AddsRangesSoFar-more, AddsRangesSoFar-all}
use Rattle.branch_counts.proofs.table.Table.add_ranges.Goals as goal

pub loop-neighbours-preserved-then-neighbours-lt3 :
    goal.loop-neighbours-preserved-then-neighbours-lt3
loop-neighbours-preserved-then-neighbours-lt3 c =
    let invariant = c.loop-neighbours.invariant in
    let step = c.in-Some.ensures.steps in
    let so_far = AddsRangesSoFar-more _ _ _ _ _ _ _ _ invariant.2 invariant.3 step.1.1 step.1.0 step.1.2 c.add_times.ensures.added in
    (omega (arith, step.0, invariant.2), tt, omega (arith, step.0, invariant.2), so_far, omega (arith, invariant.4, c.add_times.ensures.room, ap length step.1.2, length-drop {A = ℕ × ℕ}))

pub returns : goal.returns
returns c =
    let invariant = c.loop-neighbours.invariant in
    AddsRangesSoFar-all _ _ _ _ invariant.3 (omega (arith, invariant.2, c.in-None.ensures.steps.1))
