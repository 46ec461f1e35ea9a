use Rattle.std.proofs.Common.{◌≡◌, ◌<◌, ◌+◌, ◌-◌, ◌++◌, ◌∷◌, drop, take, length, reverse, refl, sym, ap, subst, ◌∙◌, arith}
use Rattle.std.proofs.lemmas.List.{drop_more}
use Rattle.profile_lists.specs.Rows.{AreRowsOf, first_way, padded, raised, rows_along, same_step, shared, way_before}
use Rattle.profile_lists.proofs.LoopLemmas.{RowsSoFar, one_more_item, all_rows}
use Rattle.profile_lists.proofs.rows.rows_of.Goals as goal

pub loop-left-preserved : goal.loop-left-preserved
loop-left-preserved c =
    let items = c.args.items.now in
    let k = c.loop-left.left - 1 in
    let item = c.index-items-left.result in
    let w = item.way.items in
    let e : c.loop-left.left ≡ k + 1 = omega arith in
    let far : RowsSoFar items (k + 1) c.loop-left.sums.items c.loop-left.rows.items =
    subst (λ n. RowsSoFar items n c.loop-left.sums.items c.loop-left.rows.items) e c.loop-left.invariant in
    let in_range : k < length items = omega (arith, c.loop-left.invariant.within) in
    let here : drop k items ≡ item ∷ drop (k + 1) items =
    drop_more items k item in_range ∙ ap (λ x. x ∷ drop (k + 1) items) (sym c.index-items-left.is) in
    let behind : c.way_at-behind.result.now ≡ first_way (drop (k + 1) items) = c.way_at-behind.ensures ∙ ap (λ n. first_way (drop n items)) e in
    let common : c.shared.result ≡ shared same_step (first_way (drop (k + 1) items)) w = c.shared.ensures.count ∙ (λ i. shared same_step (behind i) (c.deref.ensures.value i)) in
    let known : c.shared-known.result ≡ shared same_step (way_before items k) w = c.shared-known.ensures.count ∙ (λ i. shared same_step (c.way_before.ensures i) (c.deref-in-loop-left.ensures.value i)) in
    one_more_item items (drop (k + 1) items) item k c.loop-left.sums.items c.go_back.new.sums.items c.loop-left.rows.items c.push_rows.new.rows.items c.requires here refl (omega arith) far
    (c.in_ok-go_back.ensures ∙ ap (λ n. raised item.count (padded (length w) (take n c.loop-left.sums.items))) common)
    (c.in_ok-push_rows.ensures ∙ (λ i. c.loop-left.rows.items ++ reverse (drop (known i) (rows_along item 0 w (c.deref-in-loop-left-2.ensures.value i)))))

pub returns : goal.returns
returns c =
    subst (AreRowsOf c.args.items.now) (sym c.reverse.ensures.items) (all_rows c.args.items.now c.loop-left.left c.loop-left.sums.items c.loop-left.rows.items c.requires c.loop-left.invariant (omega arith))
