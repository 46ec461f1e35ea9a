use Rattle.profile_merge.proofs.sums.Sums.add_fitting.Goals as goal

pub returns-clause-given : goal.returns-clause-given
returns-clause-given c = λ names keys are given. c.raise_all.ensures.given names keys (c.reach_all.ensures.given names keys are given) tt
