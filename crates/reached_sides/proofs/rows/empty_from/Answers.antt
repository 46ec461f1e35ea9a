use Rattle.std.proofs.Common.{arith, ◌∙◌}
use Rattle.std.proofs.lemmas.List.{length-set}
use Rattle.reached_sides.proofs.RowLemmas.{emptied}
use Rattle.reached_sides.proofs.rows.empty_from.Goals as goal

pub loop-row-preserved : goal.loop-row-preserved
loop-row-preserved c =
    let old = c.loop-row.invariant in
    let within = c.loop-row-test.true in
    record {
      all = length-set c.loop-row.rows c.loop-row.row c.clear.new.self ∙ old.all;
      empty = emptied c.loop-row.row c.loop-row.rows c.clear.new.self (omega (arith, old.all, within)) c.clear.ensures old.empty;
    }
