use Rattle.std.proofs.Common.{ap, subst, sym, ◌≡◌}
use Rattle.std.specs.Option.{unwrap_or}
use Rattle.profile_merge.specs.Called.{called_sum}
use Rattle.profile_merge.proofs.CalledLemmas.{absent-place, at_place, lookup-at}
use Rattle.profile_merge.proofs.called.CalledSums.sum.Goals as goal

pub returns-in-Some : goal.returns-in-Some
returns-in-Some c =
    let at = at_place _ _ _ _ c.self.invariant c.in-Some.ensures.index in
    subst (λ sums. c.index.result.now.1 ≡ called_sum sums c.args.key c.args.callee) c.self.view_is
    (sym (ap (λ found. unwrap_or found 0) (lookup-at _ _ _ _ at c.index.ensures)))

pub returns-in-None : goal.returns-in-None
returns-in-None c =
    subst (λ sums. 0 ≡ called_sum sums c.args.key c.args.callee) c.self.view_is
    (sym (ap (λ found. unwrap_or found 0) (absent-place _ _ _ c.self.invariant c.in-None.ensures.index)))
