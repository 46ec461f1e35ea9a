use Rattle.std.proofs.Common.{ltb-true}
use Rattle.block_weights.specs.Sampled.{rank}
use Rattle.block_weights.proofs.NearLemmas.{below_all, some}
use Rattle.block_weights.proofs.taken.are_below.Goals as goal

pub returns : goal.returns
returns c = λ is. below_all (λ branch. rank branch.to branch.from) c.args.branches.now c.args.place _ _ c.requires.rise (some _ c.if-place-eq0.false) c.requires.within
    (rw (c.rank.ensures, c.rank-2.ensures) at (ltb-true _ _ is))
