use Rattle.std.proofs.Common.{arith, get_or, ap}
use Rattle.std.specs.Prelude.{pos}
use Rattle.std.proofs.lemmas.Int.{ints}
use Rattle.path_search.specs.Search.{distance_of}
use Rattle.flow_balance.proofs.PriceLemmas.{settled_inside, still_small, still_there, moving_none, moving_more, moving_all, put_begins, put_more, put_all}
use Rattle.flow_balance.proofs.prices.level.Goals as goal

pub loop-side-init : goal.loop-side-init
loop-side-init c = (moving_none _ _ _, put_begins _ _)

pub returns-clause-moved : goal.returns-clause-moved
returns-clause-moved c = moving_all _ _ _ _ _ _ c.requires.settled.in_order c.loop-side-test.false c.requires.nearest c.loop-side.invariant.0

pub returns-clause-levelled : goal.returns-clause-levelled
returns-clause-levelled c = put_all _ _ _ _ _ c.requires.settled.in_order c.loop-side-test.false c.loop-side.invariant.1

pub loop-side-preserved : goal.loop-side-preserved
loop-side-preserved c =
    let order = c.args.order.now in
    let ordered = c.requires.settled.in_order in
    let side = get_or order c.loop-side.side-index 0 in
    let same = still_small c.args.prices.now c.args.marks.now order c.args.limit c.loop-side.prices c.loop-side.side-index
    ordered c.loop-side-test.true c.loop-side.invariant.0 in
    let inside = settled_inside c.args.marks.now order c.loop-side.side-index ordered c.loop-side-test.true in
    let there = ap distance_of (still_there c.args.marks.now order c.args.limit c.loop-side.marks c.loop-side.side-index
    ordered c.loop-side-test.true c.loop-side.invariant.1) in
    let marked = c.requires.marked in
    let long = c.loop-side.auto.prices in
    let small = c.requires.small side (pos 0) (omega (arith, inside, marked)) in
    let limit = c.requires.near in
    let by = c.put.ensures.nearer in (
      moving_more c.args.prices.now c.args.marks.now order c.args.limit c.loop-side.prices c.loop-side.side-index _ ordered c.loop-side-test.true
          (omega (arith, inside, marked, long)) (omega (arith, ints, same, there, small.least, small.most, limit, by)) c.loop-side.invariant.0,
      put_more c.args.marks.now order c.args.limit c.loop-side.marks _ c.loop-side.side-index ordered c.loop-side-test.true inside c.put.ensures.marks
          c.loop-side.invariant.1,
    )
