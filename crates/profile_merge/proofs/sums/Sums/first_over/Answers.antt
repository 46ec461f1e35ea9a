use Rattle.std.proofs.Common.{sym, ◌∙◌, arith, true≢false}
use Rattle.profile_merge.proofs.ItemLemmas.{none_over_at, over_at}
use Rattle.profile_merge.proofs.sums.Sums.first_over.Goals as goal

pub returns-then-is_none : goal.returns-then-is_none
returns-then-is_none c =
    sym (over_at c.args.items.now c.loop-item.item-index _ (omega arith) c.args.weight c.sum.result _ c.sum.ensures c.loop-item.invariant (c.raised.ensures.0 c.if-is_none.ensures))

pub loop-item-preserved : goal.loop-item-preserved
loop-item-preserved c =
    none_over_at c.args.items.now c.loop-item.item-index _ (omega arith) c.args.weight c.sum.result _ c.sum.ensures c.loop-item.invariant
    (λ over. absurd (true≢false (sym c.if-is_none.ensures ∙ c.raised.ensures.1 over)))
