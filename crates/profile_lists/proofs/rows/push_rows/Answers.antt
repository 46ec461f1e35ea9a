use Rattle.std.proofs.Common.{◌≡◌, ◌+◌, ◌-◌, ◌++◌, drop, length, reverse, get_or, refl, ap, ◌∙◌, arith}
use Rattle.profile_lists.specs.Rows.{rows_along}
use Rattle.profile_lists.proofs.LoopLemmas.{no_rows, one_more_row}
use Rattle.profile_lists.proofs.rows.push_rows.Goals as goal

pub loop-depth-init : goal.loop-depth-init
loop-depth-init c =
    let e : c.len-depth.result ≡ length c.args.item.now.way.items = omega arith in
    (omega arith, omega arith, no_rows c.args.item.now c.len-depth.result c.args.item.now.way.items c.args.sums.now c.args.rows.now.items e)

pub loop-depth-preserved : goal.loop-depth-preserved
loop-depth-preserved c =
    let k = c.loop-depth.depth - 1 in
    let steps = c.args.item.now.way.items in
    let old = c.args.rows.now.items in
    let e : c.loop-depth.depth ≡ k + 1 = omega arith in
    let far : c.loop-depth.rows.items ≡ old ++ reverse (drop (k + 1) (rows_along c.args.item.now 0 steps c.args.sums.now)) =
    c.loop-depth.invariant.2 ∙ ap (λ n. old ++ reverse (drop n (rows_along c.args.item.now 0 steps c.args.sums.now))) e in (
      omega arith,
      omega arith,
      c.in_ok-push.ensures.items
          ∙ one_more_row c.args.item.now k steps c.args.sums.now c.index.result.now (get_or c.args.sums.now k 0) old c.loop-depth.rows.items (omega arith) c.requires.sums c.index.ensures refl far,
    )
