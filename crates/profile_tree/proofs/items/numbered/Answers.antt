use Rattle.std.proofs.Common.{◌≡◌, ◌∙◌, ◌<◌, ◌+◌, ◌||◌, ap, arith, false, filter, get_or, map, sym}
use Rattle.std.specs.List.{range_with_len}
use Rattle.profile_tree.proofs.ItemLemmas.{no_more, one_more}
use Rattle.profile_tree.specs.Items.{has_count, is_marked, is_written}
use Rattle.profile_tree.proofs.items.numbered.Goals as goal
use Rattle.profile_tree.proofs.items.numbered.Goals.{then-is_written+in_ok-push, else-is_written}

pub loop-id-preserved : goal.loop-id-preserved
loop-id-preserved c =
    let numbers = c.args.numbers.now in
    let i = c.loop-id.id in
    let old = c.loop-id.made.items in
    let p = is_written numbers.counts numbers.calls c.args.besides.now in
    let low : i < c.len.result = omega (arith, c.loop-id-test.true, c.len.ensures, c.len-id-end.ensures) in
    let same : c.is_written.result ≡ p i =
    c.is_written.ensures
    ∙ ap (λ counts. has_count counts i || get_or c.deref.result.now i false) c.counts-counts.ensures
    ∙ ap (λ b. has_count numbers.counts i || b)
    (ap (λ xs. get_or xs i false) c.deref.ensures.value ∙ c.in_ok-marks.ensures.each i low ∙ ap (λ calls. is_marked calls c.args.besides.now i) c.calls.ensures.same) in
    elim c.if-is_written.branch as (λ _. map (λ w. w.id) c.if-is_written.made.items ≡ filter p (range_with_len 0 (i + 1))) [
      | then-is_written+in_ok-push w ↦ ap (λ v. map (λ w. w.id) v.items) w.made-is ∙ one_more p i old _ _ w.in_ok-push.ensures.items (λ _. i) (sym same ∙ w.if-is_written.true) c.loop-id.invariant
      | else-is_written w ↦ ap (λ v. map (λ w. w.id) v.items) w.made-is ∙ no_more p i old (sym same ∙ w.if-is_written.false) c.loop-id.invariant
    ]
