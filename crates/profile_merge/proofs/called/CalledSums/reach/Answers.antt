-- The pair has no place yet, and gets the last one; or it has one.
use Rattle.std.proofs.Common.{ap, subst, sym, ◌∙◌}
use Rattle.std.specs.List.{list_any}
use Rattle.profile_merge.specs.Called.{AreReached, IsCalled, same_target}
use Rattle.profile_merge.proofs.CalledLemmas.{called_push, has_sum, reached_push}
use Rattle.profile_merge.proofs.called.CalledSums.reach.Goals as goal

pub returns-in_ok-insert-clause-same : goal.returns-in_ok-insert-clause-same
returns-in_ok-insert-clause-same c =
    let new = sym c.contains.ensures ∙ c.if-not-contains.true in
    let e = c.in_ok-insert.ensures in
    subst (λ old. AreReached old c.push_reserved.new.self.items c.args.key c.args.callee) c.self.view_is
    (rw c.push_reserved.ensures.items (rw c.try_reserve.ensures.items (reached_push c.self.inside.sums.items _ _ c.args.key c.args.callee c.self.invariant new e.keys e.unique)))

pub returns-in_ok-insert-clause-reached : goal.returns-in_ok-insert-clause-reached
returns-in_ok-insert-clause-reached c =
    let new = sym c.contains.ensures ∙ c.if-not-contains.true in
    rw c.push_reserved.ensures.items (rw c.try_reserve.ensures.items (called_push c.self.inside.sums.items _ c.args.key c.args.callee c.self.invariant new))

pub returns-else-not-contains-clause-reached : goal.returns-else-not-contains-clause-reached
returns-else-not-contains-clause-reached c =
    let there = sym c.contains.ensures ∙ c.if-not-contains.false in
    subst (λ sums. IsCalled sums c.args.key c.args.callee) c.self.view_is
    (sym (has_sum (c.args.key, c.args.callee) c.self.inside.sums.items) ∙ ap (list_any (same_target (c.args.key, c.args.callee))) (sym c.self.invariant) ∙ there)
