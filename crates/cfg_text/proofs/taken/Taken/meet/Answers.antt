use Rattle.cfg_text.proofs.TakenLemmas.{ranged_last, ranged_none}
use Rattle.cfg_text.proofs.taken.Taken.meet.Goals as goal

pub returns-in-Some : goal.returns-in-Some
returns-in-Some c =
    rw (← c.self.view_is)
    (ranged_last c.args.lo c.args.hi c.self.inside.spans.entries _ _ _ c.self.invariant (c.range.ensures.between tt) c.in-Some.ensures.steps)

pub returns-in-None : goal.returns-in-None
returns-in-None c =
    rw (← c.self.view_is)
    (ranged_none c.args.lo c.args.hi c.self.inside.spans.entries _ c.self.invariant (c.range.ensures.between tt) c.in-None.ensures.steps.0)
