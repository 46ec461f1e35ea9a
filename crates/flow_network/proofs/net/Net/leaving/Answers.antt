use Rattle.std.proofs.Common.{ap, length, arith}
use Rattle.flow_model.specs.Network.{Network}
use Rattle.flow_network.proofs.net.Net.leaving.Goals as goal

pub row-requires : goal.row-requires
row-requires c =
    let same = ap (λ (net : Network). length net.blocks) c.self.view_is in
    let count = c.self.invariant.block_count in
    let within = c.requires in
    (c.self.invariant.leave c.args.side (omega (arith, within, count, same))).0
