use Rattle.std.proofs.Common.{◌+◌, ◌<◌, subst, sym}
use Rattle.profile_model.specs.Profile.{capped}
use Rattle.profile_tree.proofs.Filled.{one_count}
use Rattle.profile_tree.proofs.SumLemmas.{all_to_each, given_among}
use Rattle.profile_tree.specs.Sums.{AreEach, counts_below}
use Rattle.profile_tree.proofs.sums.totals_of.Goals as goal

pub loop-id-preserved : goal.loop-id-preserved
loop-id-preserved c =
    let keys = c.args.keys.now in
    let counts = c.args.counts.now in
    let i = c.loop-id.id in
    let key = c.get-key.result.now in
    let low = all_to_each (λ k. k.root.0 < c.args.names) key keys c.requires.roots (given_among keys i key c.get-key.ensures) in
    subst (AreEach c.args.names (λ name. capped (counts_below keys counts (i + 1) name))) (sym c.raise.ensures)
    (one_count c.args.names i keys counts key c.loop-id.totals.items c.get-key.ensures low c.loop-id.invariant)
