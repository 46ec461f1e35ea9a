use Rattle.std.proofs.Common.{◌+◌, ℕ, List, subst, sym}
use Rattle.block_weights.specs.Counts.{counts_of}
use Rattle.block_weights.proofs.TreeLemmas.{LeavesSoFar, LeavesSoFar-more, LeavesSoFar-none}
use Rattle.block_weights.proofs.runs.leaves_of.Goals as goal

pub loop-run-init : goal.loop-run-init
loop-run-init c =
    subst (λ (made : List ℕ). LeavesSoFar (counts_of c.args.counts.now c.args.segments.now) 0 made) (sym c.in_ok-made.ensures.items)
    (LeavesSoFar-none (counts_of c.args.counts.now c.args.segments.now))

pub loop-run-preserved : goal.loop-run-preserved
loop-run-preserved c =
    subst (λ (made : List ℕ). LeavesSoFar (counts_of c.args.counts.now c.args.segments.now) (c.loop-run.run + 1) made) (sym c.in_ok-push.ensures.items)
    (LeavesSoFar-more (counts_of c.args.counts.now c.args.segments.now) c.loop-run.made.items c.loop-run.run _ c.loop-run.invariant c.largest_walked.ensures)
