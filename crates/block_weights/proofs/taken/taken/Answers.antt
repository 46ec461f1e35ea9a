use Rattle.std.proofs.Common.{arith, sym}
use Rattle.block_weights.proofs.TakenLemmas.{sum_below, taken-between, taken-none}
use Rattle.block_weights.proofs.taken.taken.Goals as goal

pub returns-then-end-first-clause-same : goal.returns-then-end-first-clause-same
returns-then-end-first-clause-same c =
    sym (taken-none c.args.branches.now c.args.block.now c.args.to c.place_near-first.result c.place_near-end.result c.if-end-first.true c.place_near-first.ensures.below c.place_near-end.ensures.from)

pub overflow_sub-result : goal.overflow_sub-result
overflow_sub-result c =
    let same = taken-between c.args.branches.now c.args.block.now c.args.to c.place_near-first.result c.place_near-end.result (omega arith) (omega arith) c.requires.sums.sources (omega (arith, c.if-end-first.false)) c.place_near-end.ensures.within c.place_near-first.ensures.below c.place_near-first.ensures.from c.place_near-end.ensures.below c.place_near-end.ensures.from in
    omega (arith, same, c.requires.sums.told c.place_near-first.result c.place_near-first.ensures.within, c.requires.sums.told c.place_near-end.result c.place_near-end.ensures.within)

pub returns-clause-same : goal.returns-clause-same
returns-clause-same c =
    let same = taken-between c.args.branches.now c.args.block.now c.args.to c.place_near-first.result c.place_near-end.result (omega arith) (omega arith) c.requires.sums.sources (omega (arith, c.if-end-first.false)) c.place_near-end.ensures.within c.place_near-first.ensures.below c.place_near-first.ensures.from c.place_near-end.ensures.below c.place_near-end.ensures.from in
    omega (arith, same, c.requires.sums.told c.place_near-first.result c.place_near-first.ensures.within, c.requires.sums.told c.place_near-end.result c.place_near-end.ensures.within)

pub returns-clause-fits : goal.returns-clause-fits
returns-clause-fits c =
    omega (arith, c.requires.sums.told c.place_near-end.result c.place_near-end.ensures.within, sum_below c.args.branches.now c.place_near-end.result c.requires.fits)
