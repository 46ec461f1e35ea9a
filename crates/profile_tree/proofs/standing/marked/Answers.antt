use Rattle.std.proofs.Common.{◌≡◌, ◌∙◌, ◌+◌, ap, false, filter, map, sym}
use Rattle.std.specs.Prelude.{slice_index_or}
use Rattle.std.specs.List.{range_with_len}
use Rattle.profile_tree.proofs.StandingLemmas.{no_more, one_more}
use Rattle.profile_tree.specs.Standing.{has_mark, root_of_given}
use Rattle.profile_tree.proofs.standing.marked.Goals as goal
use Rattle.profile_tree.proofs.standing.marked.Goals.{then-has_mark+in_ok-push, else-has_mark}

pub loop-id-preserved : goal.loop-id-preserved
loop-id-preserved c =
    let i = c.loop-id.id in
    let marks = c.args.marks.now in
    let p = has_mark c.args.keys.now marks in
    let same : c.has_mark.result ≡ p i = c.has_mark.ensures ∙ ap (λ o. slice_index_or marks (root_of_given o) false) (sym c.get.ensures) in
    elim c.if-has_mark.branch as (λ _. map (λ key. key.0) c.if-has_mark.ids.items ≡ filter p (range_with_len 0 (i + 1))) [
      | then-has_mark+in_ok-push w ↦
          ap (λ v. map (λ key. key.0) v.items) w.ids-is
          ∙ one_more p i c.loop-id.ids.items _ _ w.in_ok-push.ensures.items (λ _. i) (sym same ∙ w.if-has_mark.true) c.loop-id.invariant
      | else-has_mark w ↦ ap (λ v. map (λ key. key.0) v.items) w.ids-is ∙ no_more p i c.loop-id.ids.items (sym same ∙ w.if-has_mark.false) c.loop-id.invariant
    ]
