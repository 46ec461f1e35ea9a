use Rattle.reached_sides.proofs.RoundLemmas.{made_now}
use Rattle.reached_sides.proofs.marks.Marks.set.Goals as goal

pub returns : goal.returns
returns c =
    rw (← c.self.view_is) (made_now c.self.inside.round c.self.inside.sides.items c.args.side c.of.result c.args.mark
    c.of.ensures.round c.of.ensures.mark)
