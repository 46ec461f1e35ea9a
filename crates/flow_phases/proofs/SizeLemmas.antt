-- How large a network is, in units of any size.
use Rattle.std.proofs.Common.{◌≡◌, ℕ, ◌*◌, ◌≤◌, ◌++◌, length, arith, sym, subst, length-append}
use Rattle.std.proofs.lemmas.List.{length-map}
use Rattle.flow_model.specs.Network.{Network, arcs_of, network_of}
use Rattle.flow_model.specs.Sound.{IsNet}
use Rattle.flow_model.proofs.LimitLemmas.{few_returns}
use Rattle.flow_model.proofs.NetLemmas.{length-block_arcs}
use Rattle.scaling_model.specs.Coarse.{coarse, coarse_arc}
use Rattle.scaling_model.proofs.HalvedLemmas.{coarse_nets_are_nets}
use Rattle.path_search.specs.Ground.{sides_of}
use Rattle.scaling_model.specs.Bound.{size_of}

pub blocks_coarse : (shift : ℕ) (net : Network) → length (coarse shift net).blocks ≡ length net.blocks
blocks_coarse shift net = length-map net.blocks (coarse_arc shift)

pub sides_coarse : (shift : ℕ) (net : Network) → sides_of (coarse shift net) ≡ sides_of net
sides_coarse shift net = let same = blocks_coarse shift net in omega (arith, same)

size_coarse : (shift : ℕ) (net : Network) → size_of (coarse shift net) ≡ size_of net
size_coarse shift net =
    let blocks = blocks_coarse shift net in
    let edges : length (coarse shift net).edges ≡ length net.edges = length-map net.edges (coarse_arc shift) in
    omega (arith, blocks, edges)

few_arcs : (net : Network) → IsNet net → length (arcs_of net) ≤ 2 * size_of net
few_arcs net is =
    let made = network_of is.blocks is.edges is.weights is.edge_weights in
    let blocks = length-block_arcs 0 is.blocks is.weights is.block_weighed.each in
    let returns = few_returns 0 is.blocks in
    let rest = length-append made.edges made.returns in
    let all = length-append made.blocks (made.edges ++ made.returns) in
    let few : length (arcs_of made) ≤ 2 * size_of made = omega (arith, blocks, returns, rest, all) in
    subst (λ (n : Network). length (arcs_of n) ≤ 2 * size_of n) (sym is.same) few

-- a network has at most twice as many arcs as its size says
pub few_arcs_coarse : (shift : ℕ) (net : Network) → IsNet net → length (arcs_of (coarse shift net)) ≤ 2 * size_of net
few_arcs_coarse shift net is =
    let few = few_arcs (coarse shift net) (coarse_nets_are_nets shift net is) in
    let same = size_coarse shift net in
    omega (arith, few, same)

pub units_few : (net units : Network) (shift : ℕ) → units ≡ coarse shift net → IsNet net → length (arcs_of units) ≤ 2 * size_of net
units_few net units shift are is =
    subst (λ (n : Network). length (arcs_of n) ≤ 2 * size_of net) (sym are) (few_arcs_coarse shift net is)
