-- The pair has a place, whose sum is written.
use Rattle.std.proofs.Common.{ap, set, subst, sym, true≢false, ◌∙◌}
use Rattle.std.specs.Prelude.{is_some}
use Rattle.profile_merge.specs.Called.{AreWithSum, IsCalled}
use Rattle.profile_merge.proofs.CalledLemmas.{absent-place, at_place, keys-at, with_sum_at}
use Rattle.profile_merge.proofs.called.CalledSums.set.Goals as goal

pub invariant_of-self : goal.invariant_of-self
invariant_of-self c =
    c.self.invariant ∙ sym (keys-at _ _ _ _ c.index_mut.ensures.value)

pub returns-in-Some : goal.returns-in-Some
returns-in-Some c =
    let at = at_place _ _ _ _ c.self.invariant c.in-Some.ensures.index in
    subst (λ old. AreWithSum old (set c.self.inside.sums.items c.in-Some.place (c.index_mut.result.now.0, c.args.sum)) c.args.key c.args.callee c.args.sum) c.self.view_is
    (with_sum_at _ _ _ _ _ _ at c.index_mut.ensures.value)

pub returns-in_default : goal.returns-in_default
returns-in_default c =
    let there = subst (λ calls. IsCalled calls c.args.key c.args.callee) (sym c.self.view_is) c.requires in
    absurd (true≢false (sym there ∙ ap is_some (absent-place (c.args.key, c.args.callee) _ _ c.self.invariant c.in_default.ensures.index)))
