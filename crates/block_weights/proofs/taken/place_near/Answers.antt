use Rattle.std.proofs.Common.{◌<◌, ◌≤◌, arith}
use Rattle.sample_model.specs.declared.pair.Pair.{Pair}
use Rattle.block_weights.specs.Sampled.{rank}
use Rattle.block_weights.proofs.NearLemmas.{back_within, front_within}
use Rattle.block_weights.proofs.taken.place_near.Goals as goal

pub returns-then-are_from-clause-below : goal.returns-then-are_from-clause-below
returns-then-are_from-clause-below c =
    front_within (λ (branch : Pair). rank branch.to branch.from < rank c.args.to c.args.from) c.args.branches.now c.saturating_sub-low.result _ c.place_of.result
    c.place_of.ensures.within (c.are_below.ensures c.if-are_below.true) c.place_of.ensures.below

pub returns-then-are_from-clause-from : goal.returns-then-are_from-clause-from
returns-then-are_from-clause-from c =
    back_within (λ (branch : Pair). rank c.args.to c.args.from ≤ rank branch.to branch.from) c.args.branches.now c.saturating_sub-low.result _ c.place_of.result c.min-high.result
    (omega (arith, c.saturating_sub-low.ensures, c.min-high.ensures, c.requires.near)) (omega (arith, c.min-high.ensures))
    (c.are_from.ensures c.if-are_from.true) c.place_of.ensures.from
