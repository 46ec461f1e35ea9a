-- Each network of a function is limited.
use Rattle.std.proofs.Common.{ℕ, suc, if◌then◌else◌, ◌+◌, ◌*◌, ◌^◌, ◌<◌, ◌≤◌, ◌==◌, List, [], ◌∷◌, ◌++◌, length, arith, length-append}
use Rattle.std.specs.List.{AllByRecursion}
use Rattle.std.proofs.lemmas.Bool.{cond_both}
use Rattle.std.proofs.lemmas.List.Elements.{recursion_from_All, All-from_recursion, All-append, All-cons}
use Rattle.block_model.specs.declared.parts.Block.{Block}
use Rattle.block_model.specs.declared.parts.Edge.{Edge}
use Rattle.block_model.specs.declared.parts.Weight.{Weight}
use Rattle.block_model.specs.declared.parts.Weight.TheVariants.{Unknown, Known}
use Rattle.flow_model.specs.declared.arc.Arc.{Arc}
use Rattle.flow_model.specs.Network.{weight_of, raise_of_block, lower_of_block, raise_of_edge, lower_of_edge, block_arcs, edge_arcs, free_arc, return_arcs, some_sampled}
use Rattle.flow_model.specs.Sound.{IsSoundBound, JoinsBlocks, IsLimitedArc}
use Rattle.flow_model.specs.BalanceLaws.{NetsAreLimited}
use Rattle.flow_model.proofs.NetLemmas.{length-block_arcs, length-edge_arcs}

AtMost40 : ℕ → Type 0
AtMost40 n = n ≤ 40

cheap_raise : (number : ℕ) (weight : Weight) → raise_of_block number weight ≤ 40
unfolding AtMost40
cheap_raise number Unknown = omega arith
cheap_raise number (Known weight) =
    cond_both (number == 0) 40 _ AtMost40 (λ _. omega arith) (λ _. cond_both (weight == 0) 11 10 AtMost40 (λ _. omega arith) (λ _. omega arith))

cheap_lower : (number : ℕ) (weight : Weight) → lower_of_block number weight ≤ 40
unfolding AtMost40
cheap_lower number Unknown = omega arith
cheap_lower number (Known weight) =
    cond_both (number == 0) 10 _ AtMost40 (λ _. omega arith) (λ _. cond_both (weight == 0) 0 20 AtMost40 (λ _. omega arith) (λ _. omega arith))

cheap_raise_of_edge : (weight : Weight) → raise_of_edge weight ≤ 40
unfolding AtMost40
cheap_raise_of_edge Unknown = omega arith
cheap_raise_of_edge (Known weight) = cond_both (weight == 0) 3 2 AtMost40 (λ _. omega arith) (λ _. omega arith)

cheap_lower_of_edge : (weight : Weight) → lower_of_edge weight ≤ 40
unfolding AtMost40
cheap_lower_of_edge Unknown = omega arith
cheap_lower_of_edge (Known weight) = cond_both (weight == 0) 0 4 AtMost40 (λ _. omega arith) (λ _. omega arith)

limited_blocks : (count number : ℕ) (blocks : List Block) (weights : List Weight) → number + length blocks ≤ count
    → AllByRecursion (λ block. IsSoundBound block.bound) blocks → AllByRecursion (λ weight. weight_of weight < 2 ^ 44) weights
    → AllByRecursion (IsLimitedArc count) (block_arcs number blocks weights)
limited_blocks count number [] weights within bounded light = tt
limited_blocks count number (block ∷ blocks) [] within bounded light = tt
limited_blocks count number (block ∷ blocks) (weight ∷ weights) within bounded light = (
  record {
    starts = omega (arith, within);
    goes = omega (arith, within);
    small = bounded.0.small;
    ordered = bounded.0.ordered;
    light = light.0;
    cheap_up = cheap_raise number weight;
    cheap_down = cheap_lower number weight;
  },
  limited_blocks count (number + 1) blocks weights (omega (arith, within)) bounded.1 light.1,
)

limited_edges : (count : ℕ) (edges : List Edge) (weights : List Weight) → AllByRecursion (JoinsBlocks count) edges
    → AllByRecursion (λ edge. IsSoundBound edge.bound) edges → AllByRecursion (λ weight. weight_of weight < 2 ^ 44) weights
    → AllByRecursion (IsLimitedArc count) (edge_arcs edges weights)
limited_edges count [] weights joined bounded light = tt
limited_edges count (edge ∷ edges) [] joined bounded light = tt
limited_edges count (edge ∷ edges) (weight ∷ weights) joined bounded light =
    let from : edge.from < count = joined.0.leaves in
    let to : edge.to < count = joined.0.enters in (
      record {
        starts = omega (arith, from);
        goes = omega (arith, to);
        small = bounded.0.small;
        ordered = bounded.0.ordered;
        light = light.0;
        cheap_up = cheap_raise_of_edge weight;
        cheap_down = cheap_lower_of_edge weight;
      },
      limited_edges count edges weights joined.1 bounded.1 light.1,
    )

limited_free : (count tail head lower : ℕ) → tail ≤ 2 * count → head ≤ 2 * count → lower ≤ 1 → IsLimitedArc count (free_arc tail head lower)
limited_free count tail head lower starts goes least = record {
  starts = starts;
  goes = goes;
  small = omega (arith, least);
  ordered = tt;
  light = omega arith;
  cheap_up = omega arith;
  cheap_down = omega arith;
}

limited_returns : (count number : ℕ) (blocks : List Block) → number + length blocks ≤ count
    → AllByRecursion (IsLimitedArc count) (return_arcs number blocks)
limited_returns count number [] within = tt
limited_returns count number (block ∷ blocks) within =
    let more = limited_returns count (number + 1) blocks (omega (arith, within)) in
    let P : List Arc → Type 0 = λ arcs. AllByRecursion (IsLimitedArc count) arcs in
    cond_both block.exit _ _ P (λ _. (limited_free count _ _ 0 (omega (arith, within)) (omega arith) (omega arith), more)) (λ _. more)

pub few_returns : (number : ℕ) (blocks : List Block) → length (return_arcs number blocks) ≤ length blocks
few_returns number [] = omega arith
few_returns number (block ∷ blocks) =
    let more = few_returns (number + 1) blocks in
    let P : List Arc → Type 0 = λ arcs. length arcs ≤ suc (length blocks) in
    cond_both block.exit _ _ P (λ _. omega (arith, more)) (λ _. omega (arith, more))

at_most_one : (weights : List Weight) → (if some_sampled weights then 1 else 0) ≤ 1
at_most_one weights = let P : ℕ → Type 0 = λ n. n ≤ 1 in cond_both (some_sampled weights) 1 0 P (λ _. omega arith) (λ _. omega arith)

pub nets_are_limited : NetsAreLimited
nets_are_limited net is =
    let blocks = block_arcs 0 is.blocks is.weights in
    let edges = edge_arcs is.edges is.edge_weights in
    let returns = return_arcs 0 is.blocks in
    let count = length is.blocks in
    let same = length-block_arcs 0 is.blocks is.weights is.block_weighed.each in
    let also = length-edge_arcs is.edges is.edge_weights is.edge_weighed.each in
    let few = few_returns 0 is.blocks in
    let some = is.sound.some in
    let few_blocks = is.sound.few_blocks in
    let few_edges = is.sound.few_edges in
    rw is.same (record {
      few = omega (arith, same, also, few, few_blocks, few_edges, length-append {A = Arc} edges returns, length-append {A = Arc} blocks (edges ++ returns));
      arcs = rw same (
          All-cons (IsLimitedArc count) _ _
          (limited_free count 0 1 _ (omega arith) (omega (arith, some)) (at_most_one is.weights))
          (All-append (IsLimitedArc count) blocks (edges ++ returns)
          (All-from_recursion (IsLimitedArc count) blocks (limited_blocks count 0 is.blocks is.weights (omega arith) (recursion_from_All _ is.blocks is.sound.bounded_blocks) (recursion_from_All _ is.weights is.block_weighed.small)))
          (All-append (IsLimitedArc count) edges returns
          (All-from_recursion (IsLimitedArc count) edges (limited_edges count is.edges is.edge_weights (recursion_from_All _ is.edges is.sound.joined) (recursion_from_All _ is.edges is.sound.bounded_edges) (recursion_from_All _ is.edge_weights is.edge_weighed.small)))
          (All-from_recursion (IsLimitedArc count) returns (limited_returns count 0 is.blocks (omega arith))))));
    })
