use Rattle.std.proofs.Common.{arith}
use Rattle.flow_network.proofs.NetLemmas.{blocks_few}
use Rattle.flow_network.proofs.net.Net.block_count.Goals as goal

pub returns-clause-few : goal.returns-clause-few
returns-clause-few c =
    let few = blocks_few _ c.self.invariant.net in
    let same = c.self.invariant.block_count in
    omega (arith, few, same)
