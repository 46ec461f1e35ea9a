use Rattle.std.proofs.Common.{subst, sym}
use Rattle.profile_merge.specs.Sums.{AreSumsOf}
use Rattle.profile_merge.proofs.sums.Sums.set.Goals as goal

pub returns-in-Target-clause-given : goal.returns-in-Target-clause-given
returns-in-Target-clause-given c = λ names keys are given.
    let inside = subst (AreSumsOf names keys) (sym c.self.view_is) are in
    record { heads = inside.heads; counts = inside.counts; called = c.set-in-Target.ensures.of names keys inside.called }
