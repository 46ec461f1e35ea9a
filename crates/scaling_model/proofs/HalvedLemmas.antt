-- Networks in units of twice the size are networks, and what holds of them.
use Rattle.std.proofs.Common.{◌≡◌, ℕ, zero, suc, ◌+◌, ◌-◌, ◌*◌, ◌/◌, ◌^◌, ◌<◌, ◌≤◌, ◌==◌, Bool, true, false, ◌||◌, not, ◌&&◌, List, [], ◌∷◌, ◌++◌, map, length, Option, None, Some, if◌then◌else◌, refl, arith, ap, sym, subst, ◌∙◌}
use Rattle.std.specs.Prelude.{nat_lt, max}
use Rattle.std.specs.List.{All, AllByRecursion}
use Rattle.std.specs.Option.{option_map}
use Rattle.std.proofs.Math.Nat.{pow-suc}
use Rattle.std.proofs.lemmas.Bool.{cond_both, lt-ltb, ne_eqb}
use Rattle.std.proofs.lemmas.Nat.{pow_pos}
use Rattle.std.proofs.lemmas.List.{length-map}
use Rattle.std.proofs.lemmas.List.Elements.{All-map, All-weaker, recursion_from_All, All-from_recursion}
use Rattle.block_model.specs.declared.parts.Block.{Block}
use Rattle.block_model.specs.declared.parts.Bound.{Bound}
use Rattle.block_model.specs.declared.parts.Edge.{Edge}
use Rattle.block_model.specs.declared.parts.Weight.{Weight}
use Rattle.block_model.specs.declared.parts.Weight.TheVariants.{Unknown, Known}
use Rattle.flow_model.specs.declared.arc.Arc.{Arc}
use Rattle.flow_model.specs.Circulation.{root}
use Rattle.flow_model.specs.Cut.{IsCut, enters, leaves, least_in, most_out, both_bounds}
use Rattle.flow_model.specs.Network.{Network, arcs_of, network_of, weight_of, some_sampled, block_arc, block_arcs, edge_arc, edge_arcs, free_arc, return_arcs, in_side, out_side}
use Rattle.flow_model.specs.Network.{raise_of_block, lower_of_block, raise_of_edge, lower_of_edge}
use Rattle.flow_model.specs.Sound.{IsSound, IsSoundBound, IsSoundUpper, JoinsBlocks, AreWeights, IsNet}
use Rattle.residual_model.specs.Residual.{capped, starting}
use Rattle.scaling_model.specs.Coarse.{coarse}
use Rattle.scaling_model.specs.Laws.{half_up, halved_arc, halved, CoarseNetsAreNets, CoarseCutsAreCuts, CoarseStartsAreSmall}
use Rattle.scaling_model.proofs.CoarseLemmas.{shifts_halve}

-- ---- the function of a halved network

pub halved_bound : Bound → Bound
halved_bound bound = record { lower = bound.lower / 2; upper = option_map half_up bound.upper }

pub halved_block : Block → Block
halved_block block = record block { bound = record { lower = block.bound.lower / 2; upper = option_map half_up block.bound.upper } }

pub halved_edge : Edge → Edge
halved_edge edge = record edge { bound = record { lower = edge.bound.lower / 2; upper = option_map half_up edge.bound.upper } }

pub halved_weight : Weight → Weight
halved_weight Unknown = Unknown
halved_weight (Known n) = Known (half_up n)

half_zero : (n : ℕ) → (half_up n == 0) ≡ (n == 0)
half_zero zero = refl
half_zero (suc n) = ne_eqb (half_up (suc n)) 0 (λ e. omega (arith, e)) ∙ sym (ne_eqb (suc n) 0 (λ e. omega (arith, e)))

weight_halved : (weight : Weight) → weight_of (halved_weight weight) ≡ half_up (weight_of weight)
unfolding halved_weight
weight_halved Unknown = refl
weight_halved (Known n) = refl

raise_halved : (number : ℕ) (weight : Weight) → raise_of_block number (halved_weight weight) ≡ raise_of_block number weight
unfolding halved_weight
raise_halved number Unknown = refl
raise_halved number (Known n) = rw (half_zero n) refl

lower_halved : (number : ℕ) (weight : Weight) → lower_of_block number (halved_weight weight) ≡ lower_of_block number weight
unfolding halved_weight
lower_halved number Unknown = refl
lower_halved number (Known n) = rw (half_zero n) refl

raise_edge_halved : (weight : Weight) → raise_of_edge (halved_weight weight) ≡ raise_of_edge weight
unfolding halved_weight
raise_edge_halved Unknown = refl
raise_edge_halved (Known n) = rw (half_zero n) refl

lower_edge_halved : (weight : Weight) → lower_of_edge (halved_weight weight) ≡ lower_of_edge weight
unfolding halved_weight
lower_edge_halved Unknown = refl
lower_edge_halved (Known n) = rw (half_zero n) refl

block_arcs_halved : (number : ℕ) (blocks : List Block) (weights : List Weight)
    → block_arcs number (map halved_block blocks) (map halved_weight weights) ≡ map halved_arc (block_arcs number blocks weights)
unfolding halved_block
block_arcs_halved number [] weights = refl
block_arcs_halved number (block ∷ blocks) [] = refl
block_arcs_halved number (block ∷ blocks) (weight ∷ weights) =
    rw (weight_halved weight, raise_halved number weight, lower_halved number weight, block_arcs_halved (number + 1) blocks weights) refl

edge_arcs_halved : (edges : List Edge) (weights : List Weight)
    → edge_arcs (map halved_edge edges) (map halved_weight weights) ≡ map halved_arc (edge_arcs edges weights)
unfolding halved_edge
edge_arcs_halved [] weights = refl
edge_arcs_halved (edge ∷ edges) [] = refl
edge_arcs_halved (edge ∷ edges) (weight ∷ weights) =
    rw (weight_halved weight, raise_edge_halved weight, lower_edge_halved weight, edge_arcs_halved edges weights) refl

returns_halved : (number : ℕ) (blocks : List Block) → return_arcs number (map halved_block blocks) ≡ return_arcs number blocks
unfolding halved_block
returns_halved number [] = refl
returns_halved number (block ∷ blocks) = rw (returns_halved (number + 1) blocks) refl

some_half : (n : ℕ) → nat_lt 0 (half_up n) ≡ nat_lt 0 n
some_half zero = refl
some_half (suc n) = lt-ltb 0 (half_up (suc n)) (omega arith) ∙ sym (lt-ltb 0 (suc n) (omega arith))

sampled_halved : (weights : List Weight) → some_sampled (map halved_weight weights) ≡ some_sampled weights
sampled_halved [] = refl
sampled_halved (weight ∷ weights) = rw (weight_halved weight, some_half (weight_of weight), sampled_halved weights) refl

network_halved : (blocks : List Block) (edges : List Edge) (weights edge_weights : List Weight)
    → network_of (map halved_block blocks) (map halved_edge edges) (map halved_weight weights) (map halved_weight edge_weights)
    ≡ halved (network_of blocks edges weights edge_weights)
network_halved blocks edges weights edge_weights =
    rw (sampled_halved weights, block_arcs_halved 0 blocks weights, edge_arcs_halved edges edge_weights, returns_halved 0 blocks) refl

-- ---- it is sound

upper_halved : (lower : ℕ) (upper : Option ℕ) → IsSoundUpper lower upper → IsSoundUpper (lower / 2) (option_map half_up upper)
upper_halved lower None sound = tt
upper_halved lower (Some upper) sound =
    let ordered = sound.0 in let small = sound.1 in (omega (arith, ordered), omega (arith, small))

bound_halved : (bound : Bound) → IsSoundBound bound → IsSoundBound (record { lower = bound.lower / 2; upper = option_map half_up bound.upper })
bound_halved bound sound = record {
  small = let small = sound.small in omega (arith, small);
  ordered = upper_halved bound.lower bound.upper sound.ordered;
}

weights_halved : (count : ℕ) (weights : List Weight) → AreWeights count weights → AreWeights count (map halved_weight weights)
weights_halved count weights are = record {
  each = length-map weights halved_weight ∙ are.each;
  small = All-map (λ weight. weight_of weight < 2 ^ 44) halved_weight weights
      (All-weaker (λ weight. weight_of weight < 2 ^ 44) (λ weight. weight_of (halved_weight weight) < 2 ^ 44)
      (λ weight small. let is = weight_halved weight in omega (arith, is, small)) weights are.small);
}

sound_halved : (blocks : List Block) (edges : List Edge) → IsSound blocks edges → IsSound (map halved_block blocks) (map halved_edge edges)
unfolding halved_block halved_edge
sound_halved blocks edges sound =
    let same = length-map blocks halved_block in
    let also = length-map edges halved_edge in
    record {
      some = let some = sound.some in omega (arith, some, same);
      few_blocks = let few = sound.few_blocks in omega (arith, few, same);
      few_edges = let few = sound.few_edges in omega (arith, few, also);
      joined = All-map (JoinsBlocks (length (map halved_block blocks))) halved_edge edges
          (All-weaker (JoinsBlocks (length blocks)) (λ edge. JoinsBlocks (length (map halved_block blocks)) (halved_edge edge))
          (λ edge joins. record {
            leaves = let leaves = joins.leaves in omega (arith, leaves, same);
            enters = let enters = joins.enters in omega (arith, enters, same);
          }) edges sound.joined);
      bounded_blocks = All-map (λ block. IsSoundBound block.bound) halved_block blocks
          (All-weaker (λ block. IsSoundBound block.bound) (λ block. IsSoundBound (halved_block block).bound)
          (λ block is. bound_halved block.bound is) blocks sound.bounded_blocks);
      bounded_edges = All-map (λ edge. IsSoundBound edge.bound) halved_edge edges
          (All-weaker (λ edge. IsSoundBound edge.bound) (λ edge. IsSoundBound (halved_edge edge).bound)
          (λ edge is. bound_halved edge.bound is) edges sound.bounded_edges);
    }

pub net_halved : (net : Network) → IsNet net → IsNet (halved net)
net_halved net is = record {
  blocks = map halved_block is.blocks;
  edges = map halved_edge is.edges;
  weights = map halved_weight is.weights;
  edge_weights = map halved_weight is.edge_weights;
  sound = sound_halved is.blocks is.edges is.sound;
  block_weighed = subst (λ (count : ℕ). AreWeights count (map halved_weight is.weights)) (sym (length-map is.blocks halved_block))
      (weights_halved (length is.blocks) is.weights is.block_weighed);
  edge_weighed = subst (λ (count : ℕ). AreWeights count (map halved_weight is.edge_weights)) (sym (length-map is.edges halved_edge))
      (weights_halved (length is.edges) is.edge_weights is.edge_weighed);
  same = ap halved is.same ∙ sym (network_halved is.blocks is.edges is.weights is.edge_weights);
}

pub one_more : (shift : ℕ) (net : Network) → coarse (suc shift) net ≡ halved (coarse shift net)
one_more shift net =
    let e : suc shift ≡ shift + 1 = omega arith in
    ap (λ (k : ℕ). coarse k net) e ∙ (shifts_halve net).1 shift

pub coarse_nets_are_nets : CoarseNetsAreNets
coarse_nets_are_nets zero net is = subst IsNet (sym (shifts_halve net).0) is
coarse_nets_are_nets (suc shift) net is =
    let step = one_more shift net in
    subst IsNet (sym step) (net_halved (coarse shift net) (coarse_nets_are_nets shift net is))

-- ---- cuts

-- what has to flow in and what can flow out in units of twice the size tells of what has to and can here
record AreSums (set : ℕ → Bool) (half arcs : List Arc) : Type 0 where
  pub least : 2 * least_in set half ≤ least_in set arcs
  pub most : (m : ℕ) → most_out set half ≡ Some m → (n : ℕ) × (most_out set arcs ≡ Some n) × (n ≤ 2 * m)

-- one arc before others
least_step : (b : Bool) (lower half_rest rest : ℕ) → 2 * half_rest ≤ rest
    → 2 * ((if b then lower / 2 else 0) + half_rest) ≤ (if b then lower else 0) + rest
least_step true lower half_rest rest more = omega (arith, more)
least_step false lower half_rest rest more = omega (arith, more)

most_step : (b : Bool) (upper half_rest rest : Option ℕ) → ((m : ℕ) → half_rest ≡ Some m → (n : ℕ) × (rest ≡ Some n) × (n ≤ 2 * m))
    → (m : ℕ) → both_bounds (if b then option_map half_up upper else Some 0) half_rest ≡ Some m
    → (n : ℕ) × (both_bounds (if b then upper else Some 0) rest ≡ Some n) × (n ≤ 2 * m)
most_step true None half_rest rest more m is = absurd (cc)
most_step true (Some upper) None rest more m is = absurd (cc)
most_step true (Some upper) (Some r) rest more m is =
    let e : half_up upper + r ≡ m = cc in
    let found = more r refl in
    (upper + found.0, rw (found.1) refl, let few = found.2 in omega (arith, few, e))
most_step false upper None rest more m is = absurd (cc)
most_step false upper (Some r) rest more m is =
    let e : 0 + r ≡ m = cc in
    let found = more r refl in
    (0 + found.0, rw (found.1) refl, let few = found.2 in omega (arith, few, e))

sums_more : (set : ℕ → Bool) (arcs half_rest rest : List Arc) → AreSums set half_rest rest → AreSums set (map halved_arc arcs ++ half_rest) (arcs ++ rest)
sums_more set [] half_rest rest are = are
sums_more set (arc ∷ arcs) half_rest rest are =
    let more = sums_more set arcs half_rest rest are in
    record {
      least = least_step (enters set arc) arc.lower _ _ more.least;
      most = most_step (leaves set arc) arc.upper _ _ more.most;
    }

-- returns have no lower bound
least_of_returns : (set : ℕ → Bool) (number : ℕ) (blocks : List Block) → least_in set (return_arcs number blocks) ≡ 0
least_of_returns set number [] = refl
least_of_returns set number (block ∷ blocks) =
    let more = least_of_returns set (number + 1) blocks in
    let None_in : List Arc → Type 0 = λ arcs. least_in set arcs ≡ 0 in
    let Zero : ℕ → Type 0 = λ n. n + least_in set (return_arcs (number + 1) blocks) ≡ 0 in
    cond_both block.exit _ _ None_in
    (λ _. cond_both (enters set (free_arc (out_side number) root 0)) 0 0 Zero (λ _. omega (arith, more)) (λ _. omega (arith, more)))
    (λ _. more)

sums_of_returns : (set : ℕ → Bool) (number : ℕ) (blocks : List Block) → AreSums set (return_arcs number blocks) (return_arcs number blocks)
sums_of_returns set number blocks = record {
  least = let none = least_of_returns set number blocks in omega (arith, none);
  most = λ m is. (m, is, omega arith);
}

-- calls before all others: at least one is enough
cut_step : (entering leaving : Bool) (lower half_least least : ℕ) (half_rest rest : Option ℕ) (most : ℕ) → lower ≤ 1 → 2 * half_least ≤ least
    → ((m : ℕ) → half_rest ≡ Some m → (n : ℕ) × (rest ≡ Some n) × (n ≤ 2 * m))
    → both_bounds (if leaving then None else Some 0) half_rest ≡ Some most → most < (if entering then lower else 0) + half_least
    → (n : ℕ) × (both_bounds (if leaving then None else Some 0) rest ≡ Some n) × (n < (if entering then lower else 0) + least)
cut_step entering true lower half_least least half_rest rest most one low more is less = absurd (cc)
cut_step entering false lower half_least least None rest most one low more is less = absurd (cc)
cut_step true false lower half_least least (Some r) rest most one low more is less =
    let e : 0 + r ≡ most = cc in
    let found = more r refl in
    (0 + found.0, rw (found.1) refl, let few = found.2 in omega (arith, few, e, one, low, less))
cut_step false false lower half_least least (Some r) rest most one low more is less =
    let e : 0 + r ≡ most = cc in
    let found = more r refl in
    (0 + found.0, rw (found.1) refl, let few = found.2 in omega (arith, few, e, low, less))

pub one_call : (weights : List Weight) → (if some_sampled weights then 1 else 0) ≤ 1
one_call weights = let P : ℕ → Type 0 = λ n. n ≤ 1 in cond_both (some_sampled weights) 1 0 P (λ _. omega arith) (λ _. omega arith)

cut_halved_of : (blocks : List Block) (edges : List Edge) (weights edge_weights : List Weight) (set : ℕ → Bool)
    → IsCut set (arcs_of (halved (network_of blocks edges weights edge_weights)))
    → IsCut set (arcs_of (network_of blocks edges weights edge_weights))
cut_halved_of blocks edges weights edge_weights set cut =
    let net = network_of blocks edges weights edge_weights in
    let sums : AreSums set (map halved_arc net.blocks ++ (map halved_arc net.edges ++ net.returns)) (net.blocks ++ (net.edges ++ net.returns)) =
    sums_more set net.blocks _ _ (sums_more set net.edges _ _ (sums_of_returns set 0 blocks)) in
    cut_step (enters set net.calls) (leaves set net.calls) net.calls.lower _ _ _ _ cut.0 (one_call weights) sums.least sums.most cut.1 cut.2

pub cut_halved : (net : Network) (set : ℕ → Bool) → IsNet net → IsCut set (arcs_of (halved net)) → IsCut set (arcs_of net)
cut_halved net set is cut =
    subst (λ (n : Network). IsCut set (arcs_of n)) (sym is.same)
    (cut_halved_of is.blocks is.edges is.weights is.edge_weights set (subst (λ (n : Network). IsCut set (arcs_of (halved n))) is.same cut))

pub coarse_cuts_are_cuts : CoarseCutsAreCuts
coarse_cuts_are_cuts zero net set is cut = subst (λ (n : Network). IsCut set (arcs_of n)) (shifts_halve net).0 cut
coarse_cuts_are_cuts (suc shift) net set is cut =
    let step = one_more shift net in
    coarse_cuts_are_cuts shift net set is
    (cut_halved (coarse shift net) set (coarse_nets_are_nets shift net is) (subst (λ (n : Network). IsCut set (arcs_of n)) step cut))

-- ---- counts to start from

half_of_start : (upper : Option ℕ) (weight lower : ℕ)
    → capped (option_map half_up upper) (max (half_up weight) (lower / 2)) ≤ half_up (capped upper (max weight lower))
half_of_start None weight lower = omega arith
half_of_start (Some upper) weight lower = omega arith

twice : (bits : ℕ) → 2 ^ (bits + 1) ≡ 2 ^ bits * 2
twice bits = let e : bits + 1 ≡ suc bits = omega arith in ap (λ (k : ℕ). 2 ^ k) e ∙ pow-suc 2 bits

-- no count to start from is above this one
StartsWithin : ℕ → Arc → Type 0
StartsWithin most arc = starting arc ≤ most

start_halved : (bits : ℕ) (arc : Arc) → StartsWithin (2 ^ (bits + 1)) arc → StartsWithin (2 ^ bits) (halved_arc arc)
unfolding StartsWithin
start_halved bits arc within =
    let half = half_of_start arc.upper arc.weight arc.lower in
    let double = twice bits in
    omega (arith, half, within, double)

starts_more : (bits : ℕ) (arcs half_rest rest : List Arc)
    → (AllByRecursion (StartsWithin (2 ^ (bits + 1))) rest → AllByRecursion (StartsWithin (2 ^ bits)) half_rest)
    → AllByRecursion (StartsWithin (2 ^ (bits + 1))) (arcs ++ rest)
    → AllByRecursion (StartsWithin (2 ^ bits)) (map halved_arc arcs ++ half_rest)
starts_more bits [] half_rest rest last all = last all
starts_more bits (arc ∷ arcs) half_rest rest last all =
    (start_halved bits arc all.0, starts_more bits arcs half_rest rest last all.1)

starts_of_returns : (most number : ℕ) (blocks : List Block) → AllByRecursion (StartsWithin most) (return_arcs number blocks)
unfolding StartsWithin
starts_of_returns most number [] = tt
starts_of_returns most number (block ∷ blocks) =
    let more = starts_of_returns most (number + 1) blocks in
    let P : List Arc → Type 0 = λ arcs. AllByRecursion (StartsWithin most) arcs in
    cond_both block.exit _ _ P (λ _. (omega arith, more)) (λ _. more)

starts_halved_of : (bits : ℕ) (blocks : List Block) (edges : List Edge) (weights edge_weights : List Weight)
    → AllByRecursion (StartsWithin (2 ^ (bits + 1))) (arcs_of (network_of blocks edges weights edge_weights))
    → AllByRecursion (StartsWithin (2 ^ bits)) (arcs_of (halved (network_of blocks edges weights edge_weights)))
unfolding StartsWithin
starts_halved_of bits blocks edges weights edge_weights all =
    let net = network_of blocks edges weights edge_weights in
    let one = one_call weights in
    let some = pow_pos bits in (
      omega (arith, one, some),
      starts_more bits net.blocks _ _ (starts_more bits net.edges _ _ (λ _. starts_of_returns (2 ^ bits) 0 blocks)) all.1,
    )

starts_halved : (bits : ℕ) (net : Network) → IsNet net → All (StartsWithin (2 ^ (bits + 1))) (arcs_of net)
    → All (StartsWithin (2 ^ bits)) (arcs_of (halved net))
starts_halved bits net is all =
    let before = recursion_from_All (StartsWithin (2 ^ (bits + 1))) (arcs_of net) all in
    subst (λ (n : Network). All (StartsWithin (2 ^ bits)) (arcs_of (halved n))) (sym is.same)
    (All-from_recursion (StartsWithin (2 ^ bits)) (arcs_of (halved (network_of is.blocks is.edges is.weights is.edge_weights)))
    (starts_halved_of bits is.blocks is.edges is.weights is.edge_weights
    (subst (λ (n : Network). AllByRecursion (StartsWithin (2 ^ (bits + 1))) (arcs_of n)) is.same before)))

coarse_starts : (shift bits : ℕ) (net : Network) → IsNet net → All (StartsWithin (2 ^ (shift + bits))) (arcs_of net)
    → All (StartsWithin (2 ^ bits)) (arcs_of (coarse shift net))
coarse_starts zero bits net is all =
    subst (λ (n : Network). All (StartsWithin (2 ^ bits)) (arcs_of n)) (sym (shifts_halve net).0)
    (let e : 0 + bits ≡ bits = omega arith in subst (λ (k : ℕ). All (StartsWithin (2 ^ k)) (arcs_of net)) e all)
coarse_starts (suc shift) bits net is all =
    let e : suc shift + bits ≡ shift + (bits + 1) = omega arith in
    let before = coarse_starts shift (bits + 1) net is (subst (λ (k : ℕ). All (StartsWithin (2 ^ k)) (arcs_of net)) e all) in
    subst (λ (n : Network). All (StartsWithin (2 ^ bits)) (arcs_of n)) (sym (one_more shift net))
    (starts_halved bits (coarse shift net) (coarse_nets_are_nets shift net is) before)

pub coarse_starts_are_small : CoarseStartsAreSmall
unfolding StartsWithin
coarse_starts_are_small shift bits net is all = coarse_starts shift bits net is all
