use Rattle.std.proofs.Common.{◌+◌, ◌^◌, subst, sym}
use Rattle.profile_lists.specs.declared.pairs.RankedCall.{RankedCall}
use Rattle.profile_lists.proofs.PairLemmas.{MergedSoFar, none_merged, one_more_pair, sum_fits}
use Rattle.profile_lists.proofs.pairs.merged.Goals as goal

pub loop-pair-init : goal.loop-pair-init
loop-pair-init c = subst (λ xs. MergedSoFar c.args.pairs.now 0 xs) (sym c.new-merged.ensures.items) (none_merged c.args.pairs.now c.requires.sorted)

pub add-requires : goal.add-requires
add-requires c =
    let d : RankedCall = record { key = 0; rank = 0; times = 0 } in
    sum_fits c.args.pairs.now c.loop-pair.pair-index d c.loop-pair.merged.items (2 ^ 64) c.loop-pair-test.true c.loop-pair.invariant c.requires.fit

pub loop-pair-preserved : goal.loop-pair-preserved
loop-pair-preserved c =
    let d : RankedCall = record { key = 0; rank = 0; times = 0 } in
    let i = c.loop-pair.pair-index in
    subst (MergedSoFar c.args.pairs.now (i + 1)) (sym c.in_ok-add.ensures)
    (one_more_pair c.args.pairs.now i d c.loop-pair.merged.items c.loop-pair-test.true (c.requires.made i d c.loop-pair-test.true) c.loop-pair.invariant)
