use Rattle.std.proofs.Common.{arith, leb-true}
use Rattle.block_weights.specs.Sampled.{rank}
use Rattle.block_weights.proofs.NearLemmas.{from_all}
use Rattle.block_weights.proofs.taken.are_from.Goals as goal

pub returns : goal.returns
returns c = λ is. from_all (λ branch. rank branch.to branch.from) c.args.branches.now c.args.place _ _ c.requires (omega (arith, c.if-branches-place.false))
    (rw (c.rank.ensures, c.rank-2.ensures) at (leb-true _ _ is))
