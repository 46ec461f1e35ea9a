use Rattle.std.proofs.Common.{arith, sym, ◌∙◌}
use Rattle.reached_sides.proofs.RowLemmas.{no_sides}
use Rattle.reached_sides.proofs.rows.SideRows.begin_at.Goals as goal

pub returns-then-self-eq-ROWS : goal.returns-then-self-eq-ROWS
returns-then-self-eq-ROWS c =
    let rows = c.self.inside.rows.items in
    let all = c.self.invariant.all in
    let empty = c.self.invariant.empty in
    let last = c.if-self-eq-ROWS.true in
    no_sides c.args.distance c.self.inside.low rows (omega (arith, all, last)) empty
    ∙ sym (no_sides c.self.inside.here c.self.inside.low rows (omega (arith, all, last)) empty) ∙ c.self.view_is
