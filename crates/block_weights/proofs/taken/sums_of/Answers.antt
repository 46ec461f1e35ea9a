use Rattle.std.proofs.Common.{◌+◌, arith, get_or, subst, sym}
use Rattle.std.proofs.lemmas.List.Sums.{sum_by_more_le}
use Rattle.sample_model.specs.declared.pair.Pair.{Pair}
use Rattle.block_weights.proofs.TakenLemmas.{SumsSoFar, no_branch, sums-all, sums-next, sums-none}
use Rattle.block_weights.proofs.taken.sums_of.Goals as goal
use Rattle.block_weights.specs.Sampled.{AreSums}

pub loop-branch-init : goal.loop-branch-init
loop-branch-init c =
    subst (λ sums. SumsSoFar c.args.branches.now 0 0 sums) (sym c.in_ok-sums.ensures.items) (sums-none c.args.branches.now)

pub overflow_add-sum : goal.overflow_add-sum
overflow_add-sum c =
    omega (arith, c.requires, c.loop-branch.invariant.is, sum_by_more_le (λ (b : Pair). b.times) c.args.branches.now c.loop-branch.branch-index no_branch c.loop-branch-test.true)

pub loop-branch-preserved : goal.loop-branch-preserved
loop-branch-preserved c =
    subst (λ sums. SumsSoFar c.args.branches.now (c.loop-branch.branch-index + 1) (c.loop-branch.sum + (get_or c.args.branches.now c.loop-branch.branch-index no_branch).times) sums) (sym c.in_ok-push.ensures.items)
    (sums-next _ _ _ _ no_branch c.loop-branch.invariant c.loop-branch-test.true (omega arith))

pub returns : goal.returns
returns c =
    subst (λ sums. AreSums c.args.branches.now sums) (sym c.in_ok-push-2.ensures.items)
    (sums-all _ _ _ _ c.loop-branch.invariant c.loop-branch-test.false (omega arith))
