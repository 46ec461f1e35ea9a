use Rattle.std.proofs.Common.{arith}
use Rattle.flow_network.proofs.NetLemmas.{edges_few}
use Rattle.flow_network.proofs.net.Net.edge_count.Goals as goal

pub returns-clause-few : goal.returns-clause-few
returns-clause-few c =
    let few = edges_few _ c.self.invariant.net in
    let same = c.self.invariant.edge_count in
    omega (arith, few, same)
