use Rattle.std.proofs.Common.{arith, refl}
use Rattle.reached_sides.proofs.RowLemmas.{empty_more}
use Rattle.reached_sides.proofs.rows.first_filled.Goals as goal

pub loop-row-preserved : goal.loop-row-preserved
loop-row-preserved c =
    let is_empty = c.if-not-is_empty.ensures in
    empty_more c.loop-row.row c.args.rows.now c.index-rows-row.result (omega (arith, c.requires.all, c.loop-row-test.true)) c.index-rows-row.is
    (is_empty.0 refl) c.loop-row.invariant
