-- Costs added up.
use Rattle.std.proofs.Common.{◌≡◌, ℕ, ◌+◌, ◌*◌, ◌^◌, ◌<◌, ◌≤◌, List, [], ◌∷◌, ◌++◌, length, get_or, drop, map, refl, arith, sym, subst, length-append}
use Rattle.std.specs.List.{All}
use Rattle.std.proofs.lemmas.Bool.{cond_both}
use Rattle.std.proofs.lemmas.List.{drop_more, drop_all, take_at, drop_at}
use Rattle.std.proofs.lemmas.List.Elements.{All-tail, All-take, All-drop, All-weaker}
use Rattle.block_model.specs.declared.parts.Block.{Block}
use Rattle.flow_model.specs.declared.arc.Arc.{Arc}
use Rattle.flow_model.specs.Circulation.{root, cost_on, total_cost}
use Rattle.flow_model.specs.Network.{Network, Counts, arcs_of, network_of, free_arc, out_side, return_arcs, returns}
use Rattle.flow_model.specs.Repair.{AreCounts, cost_of}
use Rattle.flow_model.specs.Sound.{IsNet, IsLimitedArc}
use Rattle.flow_model.proofs.LimitLemmas.{nets_are_limited}
use Rattle.flow_network.specs.Cost.{IsCheap}

-- the cost of the first i arcs, and what is left
pub record CostsTo (arcs : List Arc) (counts : List ℕ) (i sum : ℕ) : Type 0 where
  pub rest : sum + total_cost (drop i arcs) (drop i counts) ≡ total_cost arcs counts
  pub small : sum ≤ i * 2 ^ 70

pub costs_none : (arcs : List Arc) (counts : List ℕ) → CostsTo arcs counts 0 0
costs_none arcs counts = record { rest = omega arith; small = omega arith }

pub costs_more : (arcs : List Arc) (counts : List ℕ) (i sum one : ℕ) (d : Arc) → i < length arcs → length counts ≡ length arcs
    → CostsTo arcs counts i sum → one ≡ cost_on (get_or arcs i d) (get_or counts i 0) → one ≤ 2 ^ 70 → CostsTo arcs counts (i + 1) (sum + one)
costs_more arcs counts i sum one d within same costs is small =
    let also : i < length counts = omega (arith, within, same) in
    let before = costs.rest in
    let at = rw (drop_more arcs i d within, drop_more counts i 0 also) at before in
    let few = costs.small in
    record { rest = omega (arith, at, is); small = omega (arith, few, small) }

pub costs_all : (arcs : List Arc) (counts : List ℕ) (i sum : ℕ) → length arcs ≤ i → CostsTo arcs counts i sum → sum ≡ total_cost arcs counts
costs_all arcs counts i sum past costs =
    let at = rw (drop_all i arcs past) at costs.rest in omega (arith, at)

-- ---- the parts of a network

total_cost-append : (xs ys : List Arc) (ns ms : List ℕ) → length ns ≡ length xs
    → total_cost (xs ++ ys) (ns ++ ms) ≡ total_cost xs ns + total_cost ys ms
total_cost-append [] ys [] ms same = omega arith
total_cost-append [] ys (n ∷ ns) ms same = absurd (omega (arith, same))
total_cost-append (x ∷ xs) ys [] ms same = absurd (omega (arith, same))
total_cost-append (x ∷ xs) ys (n ∷ ns) ms same =
    let more = total_cost-append xs ys ns ms (omega (arith, same)) in omega (arith, more)

free_costs : (arcs : List Arc) → ((ns : List ℕ) → total_cost arcs ns ≡ 0) → (arc : Arc) → arc.up ≡ 0 → arc.down ≡ 0
    → (ns : List ℕ) → total_cost (arc ∷ arcs) ns ≡ 0
free_costs arcs more arc up down [] = refl
free_costs arcs more arc up down (n ∷ ns) = let none = more ns in rw (up, down) (omega (arith, none))

returns_cost : (number : ℕ) (blocks : List Block) → (ns : List ℕ) → total_cost (return_arcs number blocks) ns ≡ 0
returns_cost number [] = λ ns. refl
returns_cost number (block ∷ blocks) =
    let more = returns_cost (number + 1) blocks in
    let P : List Arc → Type 0 = λ arcs. (ns : List ℕ) → total_cost arcs ns ≡ 0 in
    cond_both block.exit _ _ P (λ _. free_costs (return_arcs (number + 1) blocks) more (free_arc (out_side number) root 0) refl refl) (λ _. more)

-- calls and returns cost nothing
pub cost_of-is : (net : Network) (counts : Counts) → IsNet net → AreCounts net counts
    → total_cost net.blocks counts.blocks + total_cost net.edges counts.edges ≡ cost_of net counts
cost_of-is net counts is are = subst P (sym is.same) here are
  where
    P : Network → Type 0
    P net = AreCounts net counts → total_cost net.blocks counts.blocks + total_cost net.edges counts.edges ≡ cost_of net counts

    here : P (network_of is.blocks is.edges is.weights is.edge_weights)
    here are =
        let net = network_of is.blocks is.edges is.weights is.edge_weights in
        let backs = map (returns net counts) net.returns in
        let front = total_cost-append net.blocks (net.edges ++ net.returns) counts.blocks (counts.edges ++ backs) are.blocks in
        let back = total_cost-append net.edges net.returns counts.edges backs are.edges in
        let none = returns_cost 0 is.blocks backs in
        omega (arith, front, back, none)

cheap : (count : ℕ) (arc : Arc) → IsLimitedArc count arc → IsCheap arc
cheap count arc is = record { cheap_up = is.cheap_up; cheap_down = is.cheap_down }

cheap_all : (net : Network) → IsNet net → All IsCheap (net.blocks ++ (net.edges ++ net.returns))
cheap_all net is =
    let all = (nets_are_limited net is).arcs in
    let count = length net.blocks in
    All-tail IsCheap net.calls (net.blocks ++ (net.edges ++ net.returns)) (All-weaker (IsLimitedArc count) IsCheap (cheap count) (arcs_of net) all)

pub cheap_blocks : (net : Network) → IsNet net → All IsCheap net.blocks
cheap_blocks net is =
    let rest = net.edges ++ net.returns in
    subst (λ (list : List Arc). All IsCheap list) (take_at net.blocks rest (length net.blocks) refl)
    (All-take IsCheap (length net.blocks) (net.blocks ++ rest) (cheap_all net is))

pub cheap_edges : (net : Network) → IsNet net → All IsCheap net.edges
cheap_edges net is =
    let rest = net.edges ++ net.returns in
    let back : All IsCheap rest = subst (λ (list : List Arc). All IsCheap list) (drop_at net.blocks rest (length net.blocks) refl)
    (All-drop IsCheap (length net.blocks) (net.blocks ++ rest) (cheap_all net is)) in
    subst (λ (list : List Arc). All IsCheap list) (take_at net.edges net.returns (length net.edges) refl)
    (All-take IsCheap (length net.edges) rest back)

pub few_blocks : (net : Network) → IsNet net → length net.blocks < 2 ^ 19
few_blocks net is =
    let few = (nets_are_limited net is).few in
    omega (arith, few, length-append {A = Arc} net.blocks (net.edges ++ net.returns))

pub few_edges : (net : Network) → IsNet net → length net.edges < 2 ^ 19
few_edges net is =
    let few = (nets_are_limited net is).few in
    omega (arith, few, length-append {A = Arc} net.blocks (net.edges ++ net.returns), length-append {A = Arc} net.edges net.returns)
