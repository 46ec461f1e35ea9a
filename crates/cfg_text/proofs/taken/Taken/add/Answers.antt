use Rattle.std.proofs.Common.{◌≡◌, false, arith}
use Rattle.std.specs.List.{list_any}
use Rattle.cfg_text.specs.Taken.{meets}
use Rattle.cfg_text.proofs.TakenLemmas.{apart_with, any_with}
use Rattle.cfg_text.proofs.taken.Taken.add.Goals as goal

pub invariant_of-self-2 : goal.invariant_of-self-2
invariant_of-self-2 c =
    rw c.in_ok-insert.ensures.entries
    (apart_with c.args.lo c.args.hi 0 c.self.inside.spans.entries c.self.invariant (omega arith) c.requires.filled (rw c.self.view_is c.requires.free))

pub returns-clause-added : goal.returns-clause-added
returns-clause-added c = λ p.
    let free : list_any (meets c.args.lo c.args.hi) c.self.inside.spans.entries ≡ false = rw c.self.view_is c.requires.free in
    rw (c.in_ok-insert.ensures.entries, ← c.self.view_is) (any_with p c.args.lo c.args.hi 0 c.self.inside.spans.entries c.self.invariant c.requires.filled free)
