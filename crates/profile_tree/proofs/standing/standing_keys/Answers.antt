use Rattle.std.proofs.Common.{◌∙◌, ℕ, Bool, length, refl, subst}
use Rattle.std.proofs.lemmas.Result.{IfOk-weaker}
use Rattle.profile_tree.proofs.StandingLemmas.{marked_ids, standing_are, standing_low}
use Rattle.profile_tree.specs.Items.{AreMarked}
use Rattle.profile_tree.specs.Standing.{has_mark, stands}
use Rattle.profile_tree.proofs.standing.standing_keys.Goals as goal

pub returns-clause-ways : goal.returns-clause-ways
returns-clause-ways c =
    let names = c.args.names.now in
    let keys = c.args.keys.now in
    let numbers = c.args.numbers.now in
    let marks = c.in_ok-marks.marks.items in
    let given = c.requires.numbers.given in
    IfOk-weaker c.marked.result _ _
    (λ ids is.
    standing_are names keys numbers.counts numbers.calls numbers.heads c.each_once.ensures given c.args.known ids.items c.requires.known
    (is
    ∙ marked_ids (length names) c.args.known keys numbers.counts numbers.calls numbers.heads marks c.deref.result.now
    (λ k d low. (given.key_names k d low).0) c.requires.known
    (subst (λ n. AreMarked n (stands keys numbers.counts numbers.calls numbers.heads) marks) c.len.ensures
    (subst (λ (test : ℕ → Bool). AreMarked c.len.result test marks) (λ i. stands keys (c.counts.ensures i) (c.calls-calls.ensures.same i) (c.heads-heads.ensures.same i)) c.in_ok-marks.ensures))
    c.deref.ensures.value)) c.marked.ensures

pub returns-clause-given : goal.returns-clause-given
returns-clause-given c =
    let keys = c.args.keys.now in
    IfOk-weaker c.marked.result _ _
    (λ ids is. standing_low c.args.known keys (has_mark keys c.deref.result.now) ids.items ids.items c.requires.known is refl) c.marked.ensures
