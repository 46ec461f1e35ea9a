use Rattle.std.proofs.Common.{subst, sym}
use Rattle.profile_merge.specs.Sums.{AreSumsOf}
use Rattle.profile_merge.proofs.sums.Sums.reach.Goals as goal

pub returns-in-Target-clause-given : goal.returns-in-Target-clause-given
returns-in-Target-clause-given c = λ names keys given are.
    let known = rw c.in-Target.is at given in
    let inside = subst (AreSumsOf names keys) (sym c.self.view_is) are in
    record { heads = inside.heads; counts = inside.counts; called = c.reach-in-Target.ensures.same.of names keys known.0 known.1 inside.called }
