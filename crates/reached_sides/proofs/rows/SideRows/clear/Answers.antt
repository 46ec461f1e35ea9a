use Rattle.std.proofs.Common.{rules, arith}
use Rattle.std.proofs.lemmas.List.{with_items_is}
use Rattle.reached_sides.proofs.RowLemmas.{no_sides}
use Rattle.reached_sides.proofs.rows.SideRows.clear.Goals as goal

pub returns : goal.returns
returns c =
    let rows = c.empty_from.new.rows in
    rw (with_items_is c.self.inside.rows rows (search rules))
    (no_sides 0 64 rows (omega (arith, c.empty_from.ensures.all)) c.empty_from.ensures.empty)
