use Rattle.std.proofs.Common.{arith}
use Rattle.profile_bench.proofs.LaidLemmas.{are_laid}
use Rattle.profile_bench.proofs.tree.made_tree.Goals as goal

pub counted-requires-clause-segments : goal.counted-requires-clause-segments
counted-requires-clause-segments c = are_laid _ c.in_ok-laid.laid.segments.items c.in_ok-laid.ensures.lie (omega arith)

pub counted-requires-clause-fit : goal.counted-requires-clause-fit
counted-requires-clause-fit c = c.in_ok-laid.ensures.fit

pub counted-requires-clause-named : goal.counted-requires-clause-named
counted-requires-clause-named c = c.in_ok-laid.ensures.named
