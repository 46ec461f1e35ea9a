use Rattle.std.proofs.Common.{subst, sym}
use Rattle.std.specs.List.{AllByRecursion}
use Rattle.profile_text.specs.Draft.{IsGivenItem}
use Rattle.profile_merge.proofs.sums.Sums.add.Goals as goal

pub returns-in_err-add_fitting-in-None-clause-given : goal.returns-in_err-add_fitting-in-None-clause-given
returns-in_err-add_fitting-in-None-clause-given c = λ names keys are given.
    c.add_fitting.ensures.given names keys are (subst (AllByRecursion (IsGivenItem names keys)) (sym c.as_slice-items.ensures) given)

pub returns-in_ok-add_fitting-in-None-clause-given : goal.returns-in_ok-add_fitting-in-None-clause-given
returns-in_ok-add_fitting-in-None-clause-given c = λ names keys are given.
    c.add_fitting.ensures.given names keys are (subst (AllByRecursion (IsGivenItem names keys)) (sym c.as_slice-items.ensures) given)
