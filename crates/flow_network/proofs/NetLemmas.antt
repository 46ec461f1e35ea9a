-- A network and its arcs in one list.
use Rattle.std.proofs.Common.{◌≤◌, ◌≡◌, ℕ, ◌+◌, ◌*◌, ◌^◌, ◌<◌, List, ◌++◌, length, refl, arith, ap, sym, subst, ◌∙◌}
use Rattle.std.specs.List.{All}
use Rattle.std.proofs.lemmas.List.{take_at, drop_at, length-map}
use Rattle.std.proofs.lemmas.List.Elements.{All-map, All-weaker}
use Rattle.block_model.specs.declared.parts.Block.{Block}
use Rattle.block_model.specs.declared.parts.Edge.{Edge}
use Rattle.block_model.specs.declared.parts.Weight.{Weight}
use Rattle.block_model.specs.Limits.{max_blocks, max_edges}
use Rattle.flow_model.specs.declared.arc.Arc.{Arc}
use Rattle.flow_model.specs.Network.{Network, arcs_of, network_of}
use Rattle.flow_model.specs.Sound.{IsSound, AreWeights, IsNet, IsLimitedArc}
use Rattle.flow_model.proofs.LimitLemmas.{nets_are_limited}
use Rattle.flow_model.proofs.NetLemmas.{length-block_arcs, length-edge_arcs}
use Rattle.flow_network.specs.Net.{network_by, tails_of, heads_of, KeepsNet}
use Rattle.flow_network.specs.Table.{AreRows}
use Rattle.flow_network.specs.declared.rows.KeyRows.{KeyRows}

pub network_by-arcs : (net : Network) (blocks edges : ℕ) → length net.blocks ≡ blocks → length net.edges ≡ edges
    → network_by (arcs_of net) blocks edges ≡ net
network_by-arcs net blocks edges same also =
    let rest = net.edges ++ net.returns in
    rw (take_at net.blocks rest blocks same, drop_at net.blocks rest blocks same, take_at net.edges net.returns edges also, drop_at net.edges net.returns edges also) refl

-- what a function and its weights give
pub record IsMadeOf (blocks : List Block) (edges : List Edge) (weights edge_weights : List Weight) (arcs : List Arc) : Type 0 where
  pub sound : IsSound blocks edges
  pub weighed : AreWeights (length blocks) weights
  pub edges_weighed : AreWeights (length edges) edge_weights
  pub are : arcs ≡ arcs_of (network_of blocks edges weights edge_weights)

net_is : (blocks : List Block) (edges : List Edge) (weights edge_weights : List Weight) (arcs : List Arc)
    → IsMadeOf blocks edges weights edge_weights arcs → IsNet (network_of blocks edges weights edge_weights)
net_is blocks edges weights edge_weights arcs made = record {
  blocks = blocks;
  edges = edges;
  weights = weights;
  edge_weights = edge_weights;
  sound = made.sound;
  block_weighed = made.weighed;
  edge_weighed = made.edges_weighed;
  same = refl;
}

pub view_is : (blocks : List Block) (edges : List Edge) (weights edge_weights : List Weight) (arcs : List Arc)
    → IsMadeOf blocks edges weights edge_weights arcs
    → network_by arcs (length blocks) (length edges) ≡ network_of blocks edges weights edge_weights
view_is blocks edges weights edge_weights arcs made =
    ap (λ (list : List Arc). network_by list (length blocks) (length edges)) made.are
    ∙ network_by-arcs (network_of blocks edges weights edge_weights) (length blocks) (length edges)
    (length-block_arcs 0 blocks weights made.weighed.each) (length-edge_arcs edges edge_weights made.edges_weighed.each)

pub net_keeps : (blocks : List Block) (edges : List Edge) (weights edge_weights : List Weight) (arcs : List Arc) (leaving entering : KeyRows)
    → IsMadeOf blocks edges weights edge_weights arcs
    → AreRows (tails_of arcs) (2 * length blocks + 1) leaving → AreRows (heads_of arcs) (2 * length blocks + 1) entering
    → KeepsNet arcs (length blocks) (length edges) leaving entering
net_keeps blocks edges weights edge_weights arcs leaving entering made leave enter =
    let net = network_of blocks edges weights edge_weights in
    let is = sym (view_is blocks edges weights edge_weights arcs made) in
    record {
      net = subst IsNet is (net_is blocks edges weights edge_weights arcs made);
      all = subst (λ (n : Network). arcs ≡ arcs_of n) is made.are;
      block_count = subst (λ (n : Network). length n.blocks ≡ length blocks) is (length-block_arcs 0 blocks weights made.weighed.each);
      edge_count = subst (λ (n : Network). length n.edges ≡ length edges) is (length-edge_arcs edges edge_weights made.edges_weighed.each);
      leave = leave;
      enter = enter;
    }

limited : (blocks : List Block) (edges : List Edge) (weights edge_weights : List Weight) (arcs : List Arc)
    → IsMadeOf blocks edges weights edge_weights arcs → (length arcs < 2 ^ 19) × All (IsLimitedArc (length blocks)) arcs
limited blocks edges weights edge_weights arcs made =
    let net = network_of blocks edges weights edge_weights in
    let is = nets_are_limited net (net_is blocks edges weights edge_weights arcs made) in
    let many = length-block_arcs 0 blocks weights made.weighed.each in
    let all : All (IsLimitedArc (length blocks)) (arcs_of net)
    = subst (λ (count : ℕ). All (IsLimitedArc count) (arcs_of net)) many is.arcs in (
      subst (λ (list : List Arc). length list < 2 ^ 19) (sym made.are) is.few,
      subst (λ (list : List Arc). All (IsLimitedArc (length blocks)) list) (sym made.are) all,
    )

pub few_arcs : (blocks : List Block) (edges : List Edge) (weights edge_weights : List Weight) (arcs : List Arc)
    → IsMadeOf blocks edges weights edge_weights arcs → length arcs < 2 ^ 19
few_arcs blocks edges weights edge_weights arcs made = (limited blocks edges weights edge_weights arcs made).0

pub tails_below : (blocks : List Block) (edges : List Edge) (weights edge_weights : List Weight) (arcs : List Arc)
    → IsMadeOf blocks edges weights edge_weights arcs → All (λ key. key < 2 * length blocks + 1) (tails_of arcs)
tails_below blocks edges weights edge_weights arcs made =
    let Below : ℕ → Type 0 = λ key. key < 2 * length blocks + 1 in
    All-map Below (λ (arc : Arc). arc.tail) arcs
    (All-weaker (IsLimitedArc (length blocks)) (λ arc. arc.tail < 2 * length blocks + 1) (λ arc is. let at = is.starts in omega (arith, at)) arcs (limited blocks edges weights edge_weights arcs made).1)

pub heads_below : (blocks : List Block) (edges : List Edge) (weights edge_weights : List Weight) (arcs : List Arc)
    → IsMadeOf blocks edges weights edge_weights arcs → All (λ key. key < 2 * length blocks + 1) (heads_of arcs)
heads_below blocks edges weights edge_weights arcs made =
    let Below : ℕ → Type 0 = λ key. key < 2 * length blocks + 1 in
    All-map Below (λ (arc : Arc). arc.head) arcs
    (All-weaker (IsLimitedArc (length blocks)) (λ arc. arc.head < 2 * length blocks + 1) (λ arc is. let at = is.goes in omega (arith, at)) arcs (limited blocks edges weights edge_weights arcs made).1)

pub few_tails : (blocks : List Block) (edges : List Edge) (weights edge_weights : List Weight) (arcs : List Arc)
    → IsMadeOf blocks edges weights edge_weights arcs → length (tails_of arcs) < 2 ^ 31
few_tails blocks edges weights edge_weights arcs made =
    let few = few_arcs blocks edges weights edge_weights arcs made in
    let same = length-map arcs (λ (arc : Arc). arc.tail) in
    omega (arith, few, same)

pub few_heads : (blocks : List Block) (edges : List Edge) (weights edge_weights : List Weight) (arcs : List Arc)
    → IsMadeOf blocks edges weights edge_weights arcs → length (heads_of arcs) < 2 ^ 31
few_heads blocks edges weights edge_weights arcs made =
    let few = few_arcs blocks edges weights edge_weights arcs made in
    let same = length-map arcs (λ (arc : Arc). arc.head) in
    omega (arith, few, same)

-- the same blocks and edges under another name
pub made_from : (blocks' blocks : List Block) (edges' edges : List Edge) (weights edge_weights : List Weight) (arcs : List Arc)
    → blocks' ≡ blocks → edges' ≡ edges → IsSound blocks edges → AreWeights (length blocks) weights → AreWeights (length edges) edge_weights
    → arcs ≡ arcs_of (network_of blocks' edges' weights edge_weights) → IsMadeOf blocks' edges' weights edge_weights arcs
made_from blocks' blocks edges' edges weights edge_weights arcs same also sound weighed edges_weighed are = record {
  sound = subst (λ (list : List Block). IsSound list edges') (sym same) (subst (λ (list : List Edge). IsSound blocks list) (sym also) sound);
  weighed = subst (λ (list : List Block). AreWeights (length list) weights) (sym same) weighed;
  edges_weighed = subst (λ (list : List Edge). AreWeights (length list) edge_weights) (sym also) edges_weighed;
  are = are;
}

-- how many blocks and edges there can be
pub blocks_few : (net : Network) → IsNet net → length net.blocks ≤ max_blocks
blocks_few net is =
    let few = is.sound.few_blocks in
    let same = length-block_arcs 0 is.blocks is.weights is.block_weighed.each in
    let also = ap (λ (n : Network). length n.blocks) is.same in
    omega (arith, few, same, also)

pub edges_few : (net : Network) → IsNet net → length net.edges ≤ max_edges
edges_few net is =
    let few = is.sound.few_edges in
    let same = length-edge_arcs is.edges is.edge_weights is.edge_weighed.each in
    let also = ap (λ (n : Network). length n.edges) is.same in
    omega (arith, few, same, also)
