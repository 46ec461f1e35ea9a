use Rattle.std.proofs.Common.{rules, arith}
use Rattle.reached_sides.proofs.RoundLemmas.{none_made}
use Rattle.reached_sides.proofs.marks.Marks.new.Goals as goal

pub returns : goal.returns
returns c =
    let before = c.none.ensures in
    rw (c.in_ok-vec.ensures.items_if_clones_equal (search rules)) (none_made 1 c.args.sides c.none.result (omega (arith, before)))
