use Rattle.std.proofs.Common.{◌+◌, ◌∙◌, arith}
use Rattle.profile_merge.proofs.ItemLemmas.{places_at, stay_all, stay_at}
use Rattle.profile_merge.proofs.sums.Sums.reach_all.Goals as goal

pub returns-in_err-reach-clause-given : goal.returns-in_err-reach-clause-given
returns-in_err-reach-clause-given c =
    stay_all _ (c.loop-item.item-index + 1) _ _ (stay_at c.args.items.now c.loop-item.item-index _ (omega arith) _ _ _ c.loop-item.invariant.given c.reach.ensures.given)

pub loop-item-preserved : goal.loop-item-preserved
loop-item-preserved c = record {
  same = λ what. c.reach.ensures.same what ∙ c.loop-item.invariant.same what;
  reached = places_at c.args.items.now c.loop-item.item-index _ (omega arith) _ _ c.loop-item.invariant.reached c.reach.ensures.kept c.in_ok-reach.ensures.reached;
  given = stay_at c.args.items.now c.loop-item.item-index _ (omega arith) _ _ _ c.loop-item.invariant.given c.reach.ensures.given;
}

pub returns-clause-given : goal.returns-clause-given
returns-clause-given c = stay_all _ c.loop-item.item-index _ _ c.loop-item.invariant.given
