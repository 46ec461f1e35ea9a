use Rattle.std.proofs.Common.{sym, ap, subst}
use Rattle.profile_merge.specs.Sums.{AreSumsOf}
use Rattle.merge_maker.specs.Merge.{State}
use Rattle.merge_maker.proofs.merge.Merge.sum.Goals as goal

pub returns-clause-given : goal.returns-clause-given
returns-clause-given c = λ names keys are given.
    c.add.ensures.given names keys (subst (AreSumsOf names keys) (sym (ap (λ (s : State). s.sums) c.self.view_is)) are) given
