-- What flows at the sides of a function's network.
use Rattle.std.proofs.Common.{◌≡◌, ◌≢◌, ℕ, zero, suc, ◌+◌, ◌-◌, ◌<◌, ◌≤◌, ◌==◌, Bool, true, false, List, [], ◌∷◌, ◌++◌, length, get_or, map, if◌then◌else◌, refl, arith, sym, ap, subst, inl, inr, ◌⊎◌, ◌∙◌}
use Rattle.std.specs.List.{list_any, AllByRecursion}
use Rattle.std.proofs.lemmas.Bool.{eq-eqb, ne_eqb, cases_eq, cond_both, or_from}
use Rattle.block_model.specs.declared.parts.Block.{Block}
use Rattle.block_model.specs.declared.parts.Edge.{Edge}
use Rattle.block_model.specs.declared.parts.Weight.{Weight}
use Rattle.flow_model.specs.declared.arc.Arc.{Arc}
use Rattle.flow_model.specs.Circulation.{root, EachArc, IsWithin, sum_where, inflow, outflow}
use Rattle.flow_model.specs.Network.{in_side, out_side, block_arc, block_arcs, edge_arcs, free_arc, return_arcs, Network, arcs_of, network_of, Counts, calls, returns, loads}
use Rattle.flow_model.specs.Repair.{AreCounts}
use Rattle.flow_model.specs.Sound.{JoinsBlocks}
use Rattle.flow_model.proofs.ArcLemmas.{sum_where-append, sum_where_none}

-- ---- sides

pub sides_apart : (a b : ℕ) → (in_side a == out_side b) ≡ false
sides_apart a b = ne_eqb (in_side a) (out_side b) (λ e. omega (arith, e))

pub sides_apart_back : (a b : ℕ) → (out_side a == in_side b) ≡ false
sides_apart_back a b = ne_eqb (out_side a) (in_side b) (λ e. omega (arith, e))

pub same_in_side : (a b : ℕ) → (in_side a == in_side b) ≡ (a == b)
same_in_side a b =
    elim (cases_eq a b) [
      | inl e ↦ eq-eqb (in_side a) (in_side b) (omega (arith, e)) ∙ sym (eq-eqb a b e)
      | inr apart ↦ ne_eqb (in_side a) (in_side b) (λ e. apart (omega (arith, e))) ∙ sym (ne_eqb a b apart)
    ]

pub same_out_side : (a b : ℕ) → (out_side a == out_side b) ≡ (a == b)
same_out_side a b =
    elim (cases_eq a b) [
      | inl e ↦ eq-eqb (out_side a) (out_side b) (omega (arith, e)) ∙ sym (eq-eqb a b e)
      | inr apart ↦ ne_eqb (out_side a) (out_side b) (λ e. apart (omega (arith, e))) ∙ sym (ne_eqb a b apart)
    ]

-- each node but the root is a side of a block
pub side_of : (node : ℕ) → node ≢ root → (block : ℕ) × ((node ≡ in_side block) ⊎ (node ≡ out_side block))
side_of zero apart = absurd (apart refl)
side_of (suc zero) apart = (0, inl refl)
side_of (suc (suc zero)) apart = (0, inr refl)
side_of (suc (suc (suc node))) apart =
    let below = side_of (suc node) (λ e. omega (arith, e)) in
    (below.0 + 1, elim below.1 [ inl e ↦ inl (omega (arith, e)) | inr e ↦ inr (omega (arith, e)) ])

-- ---- the arcs of blocks

-- the count of this block, the first count being that of `number`
count_at : ℕ → List ℕ → ℕ → ℕ
count_at number [] block = 0
count_at number (n ∷ ns) block = (if number == block then n else 0) + count_at (number + 1) ns block

count_before : (number : ℕ) (ns : List ℕ) (block : ℕ) → block < number → count_at number ns block ≡ 0
unfolding count_at
count_before number [] block before = refl
count_before number (n ∷ ns) block before =
    let more = count_before (number + 1) ns block (omega (arith, before)) in
    rw (ne_eqb number block (λ e. omega (arith, e, before))) (omega (arith, more))

count_at-is : (number : ℕ) (ns : List ℕ) (block k : ℕ) → block ≡ number + k → count_at number ns block ≡ get_or ns k 0
unfolding count_at
count_at-is number [] block k e = refl
count_at-is number (n ∷ ns) block zero e =
    let none = count_before (number + 1) ns block (omega (arith, e)) in
    rw (eq-eqb number block (omega (arith, e))) (omega (arith, none))
count_at-is number (n ∷ ns) block (suc k) e =
    let more = count_at-is (number + 1) ns block k (omega (arith, e)) in
    rw (ne_eqb number block (λ same. omega (arith, e, same))) (omega (arith, more))

pub length-block_arcs : (number : ℕ) (blocks : List Block) (weights : List Weight) → length weights ≡ length blocks
    → length (block_arcs number blocks weights) ≡ length blocks
length-block_arcs number [] weights same = refl
length-block_arcs number (block ∷ blocks) [] same = absurd (omega (arith, same))
length-block_arcs number (block ∷ blocks) (weight ∷ weights) same =
    let more = length-block_arcs (number + 1) blocks weights (omega (arith, same)) in omega (arith, more)

block_tails_at : (number : ℕ) (blocks : List Block) (weights : List Weight) (ns : List ℕ) (b : ℕ)
    → length weights ≡ length blocks → length ns ≡ length blocks
    → sum_where (λ arc. arc.tail == in_side b) (block_arcs number blocks weights) ns ≡ count_at number ns b
unfolding count_at
block_tails_at number [] weights [] b same also = refl
block_tails_at number [] weights (n ∷ ns) b same also = absurd (omega (arith, also))
block_tails_at number (block ∷ blocks) [] ns b same also = absurd (omega (arith, same))
block_tails_at number (block ∷ blocks) (weight ∷ weights) [] b same also = absurd (omega (arith, also))
block_tails_at number (block ∷ blocks) (weight ∷ weights) (n ∷ ns) b same also =
    let more = block_tails_at (number + 1) blocks weights ns b (omega (arith, same)) (omega (arith, also)) in
    rw (same_in_side number b) (omega (arith, more))

block_heads_at : (number : ℕ) (blocks : List Block) (weights : List Weight) (ns : List ℕ) (b : ℕ)
    → length weights ≡ length blocks → length ns ≡ length blocks
    → sum_where (λ arc. arc.head == out_side b) (block_arcs number blocks weights) ns ≡ count_at number ns b
unfolding count_at
block_heads_at number [] weights [] b same also = refl
block_heads_at number [] weights (n ∷ ns) b same also = absurd (omega (arith, also))
block_heads_at number (block ∷ blocks) [] ns b same also = absurd (omega (arith, same))
block_heads_at number (block ∷ blocks) (weight ∷ weights) [] b same also = absurd (omega (arith, also))
block_heads_at number (block ∷ blocks) (weight ∷ weights) (n ∷ ns) b same also =
    let more = block_heads_at (number + 1) blocks weights ns b (omega (arith, same)) (omega (arith, also)) in
    rw (same_out_side number b) (omega (arith, more))

pub no_block_tails : (number : ℕ) (blocks : List Block) (weights : List Weight) (b : ℕ)
    → list_any (λ arc. arc.tail == out_side b) (block_arcs number blocks weights) ≡ false
no_block_tails number [] weights b = refl
no_block_tails number (block ∷ blocks) [] b = refl
no_block_tails number (block ∷ blocks) (weight ∷ weights) b =
    or_from (in_side number == out_side b) _ (sides_apart number b) (no_block_tails (number + 1) blocks weights b)

pub no_block_heads : (number : ℕ) (blocks : List Block) (weights : List Weight) (b : ℕ)
    → list_any (λ arc. arc.head == in_side b) (block_arcs number blocks weights) ≡ false
no_block_heads number [] weights b = refl
no_block_heads number (block ∷ blocks) [] b = refl
no_block_heads number (block ∷ blocks) (weight ∷ weights) b =
    or_from (out_side number == in_side b) _ (sides_apart_back number b) (no_block_heads (number + 1) blocks weights b)

-- a fact of each block's arc, by the number of the block
pub each_by_number : (P : Arc → ℕ → Type 0) (number : ℕ) (blocks : List Block) (weights : List Weight) (ns : List ℕ)
    → length weights ≡ length blocks → length ns ≡ length blocks
    → ((b k : ℕ) (block : Block) (weight : Weight) → b ≡ number + k → P (block_arc b block weight) (get_or ns k 0))
    → EachArc P (block_arcs number blocks weights) ns
each_by_number P number [] weights [] same also f = tt
each_by_number P number [] weights (n ∷ ns) same also f = absurd (omega (arith, also))
each_by_number P number (block ∷ blocks) [] ns same also f = absurd (omega (arith, same))
each_by_number P number (block ∷ blocks) (weight ∷ weights) [] same also f = absurd (omega (arith, also))
each_by_number P number (block ∷ blocks) (weight ∷ weights) (n ∷ ns) same also f = (
  f number 0 block weight (omega arith),
  each_by_number P (number + 1) blocks weights ns (omega (arith, same)) (omega (arith, also))
      (λ b k one heavy e. f b (suc k) one heavy (omega (arith, e))),
)

pub each_at_number : (P : Arc → ℕ → Type 0) (number : ℕ) (blocks : List Block) (weights : List Weight) (ns : List ℕ)
    → EachArc P (block_arcs number blocks weights) ns → (b k : ℕ) → b ≡ number + k → k < length ns
    → (block : Block) × (weight : Weight) × P (block_arc b block weight) (get_or ns k 0)
each_at_number P number [] weights [] each b k e within = absurd (omega (arith, within))
each_at_number P number [] weights (n ∷ ns) each b k e within = absurd each
each_at_number P number (block ∷ blocks) [] [] each b k e within = absurd (omega (arith, within))
each_at_number P number (block ∷ blocks) [] (n ∷ ns) each b k e within = absurd each
each_at_number P number (block ∷ blocks) (weight ∷ weights) [] each b k e within = absurd each
each_at_number P number (block ∷ blocks) (weight ∷ weights) (n ∷ ns) each b zero e within =
    (block, weight, subst (λ (m : ℕ). P (block_arc m block weight) n) (omega (arith, e)) each.0)
each_at_number P number (block ∷ blocks) (weight ∷ weights) (n ∷ ns) each b (suc k) e within =
    each_at_number P (number + 1) blocks weights ns each.1 b k (omega (arith, e)) (omega (arith, within))

-- ---- the arcs of edges

pub length-edge_arcs : (edges : List Edge) (weights : List Weight) → length weights ≡ length edges
    → length (edge_arcs edges weights) ≡ length edges
length-edge_arcs [] weights same = refl
length-edge_arcs (edge ∷ edges) [] same = absurd (omega (arith, same))
length-edge_arcs (edge ∷ edges) (weight ∷ weights) same =
    let more = length-edge_arcs edges weights (omega (arith, same)) in omega (arith, more)

pub no_edge_tails : (edges : List Edge) (weights : List Weight) (b : ℕ)
    → list_any (λ arc. arc.tail == in_side b) (edge_arcs edges weights) ≡ false
no_edge_tails [] weights b = refl
no_edge_tails (edge ∷ edges) [] b = refl
no_edge_tails (edge ∷ edges) (weight ∷ weights) b =
    or_from (out_side edge.from == in_side b) _ (sides_apart_back edge.from b) (no_edge_tails edges weights b)

pub no_edge_heads : (edges : List Edge) (weights : List Weight) (b : ℕ)
    → list_any (λ arc. arc.head == out_side b) (edge_arcs edges weights) ≡ false
no_edge_heads [] weights b = refl
no_edge_heads (edge ∷ edges) [] b = refl
no_edge_heads (edge ∷ edges) (weight ∷ weights) b =
    or_from (in_side edge.to == out_side b) _ (sides_apart edge.to b) (no_edge_heads edges weights b)

-- behind the last block
pub no_edge_to : (count : ℕ) (edges : List Edge) (weights : List Weight) (b : ℕ) → AllByRecursion (JoinsBlocks count) edges → count ≤ b
    → list_any (λ arc. arc.head == in_side b) (edge_arcs edges weights) ≡ false
no_edge_to count [] weights b joined behind = refl
no_edge_to count (edge ∷ edges) [] b joined behind = refl
no_edge_to count (edge ∷ edges) (weight ∷ weights) b joined behind =
    let here : edge.to < count = joined.0.enters in
    or_from (in_side edge.to == in_side b) _ (ne_eqb (in_side edge.to) (in_side b) (λ e. omega (arith, e, here, behind)))
    (no_edge_to count edges weights b joined.1 behind)

pub no_edge_from : (count : ℕ) (edges : List Edge) (weights : List Weight) (b : ℕ) → AllByRecursion (JoinsBlocks count) edges → count ≤ b
    → list_any (λ arc. arc.tail == out_side b) (edge_arcs edges weights) ≡ false
no_edge_from count [] weights b joined behind = refl
no_edge_from count (edge ∷ edges) [] b joined behind = refl
no_edge_from count (edge ∷ edges) (weight ∷ weights) b joined behind =
    let here : edge.from < count = joined.0.leaves in
    or_from (out_side edge.from == out_side b) _ (ne_eqb (out_side edge.from) (out_side b) (λ e. omega (arith, e, here, behind)))
    (no_edge_from count edges weights b joined.1 behind)

-- ---- the arcs of returns

pub no_return_heads : (number : ℕ) (blocks : List Block) (node : ℕ) → node ≢ root
    → list_any (λ arc. arc.head == node) (return_arcs number blocks) ≡ false
no_return_heads number [] node apart = refl
no_return_heads number (block ∷ blocks) node apart =
    let more = no_return_heads (number + 1) blocks node apart in
    let P : List Arc → Type 0 = λ arcs. list_any (λ arc. arc.head == node) arcs ≡ false in
    cond_both block.exit _ _ P (λ _. or_from (root == node) _ (ne_eqb root node (λ e. apart (sym e))) more) (λ _. more)

pub no_return_tails : (number : ℕ) (blocks : List Block) (b : ℕ)
    → list_any (λ arc. arc.tail == in_side b) (return_arcs number blocks) ≡ false
no_return_tails number [] b = refl
no_return_tails number (block ∷ blocks) b =
    let more = no_return_tails (number + 1) blocks b in
    let P : List Arc → Type 0 = λ arcs. list_any (λ arc. arc.tail == in_side b) arcs ≡ false in
    cond_both block.exit _ _ P (λ _. or_from (out_side number == in_side b) _ (sides_apart_back number b) more) (λ _. more)

pub no_return_before : (number : ℕ) (blocks : List Block) (b : ℕ) → b < number
    → list_any (λ arc. arc.tail == out_side b) (return_arcs number blocks) ≡ false
no_return_before number [] b before = refl
no_return_before number (block ∷ blocks) b before =
    let more = no_return_before (number + 1) blocks b (omega (arith, before)) in
    let P : List Arc → Type 0 = λ arcs. list_any (λ arc. arc.tail == out_side b) arcs ≡ false in
    cond_both block.exit _ _ P
    (λ _. or_from (out_side number == out_side b) _ (ne_eqb (out_side number) (out_side b) (λ e. omega (arith, e, before))) more)
    (λ _. more)

pub no_return_behind : (number : ℕ) (blocks : List Block) (b : ℕ) → number + length blocks ≤ b
    → list_any (λ arc. arc.tail == out_side b) (return_arcs number blocks) ≡ false
no_return_behind number [] b behind = refl
no_return_behind number (block ∷ blocks) b behind =
    let more = no_return_behind (number + 1) blocks b (omega (arith, behind)) in
    let P : List Arc → Type 0 = λ arcs. list_any (λ arc. arc.tail == out_side b) arcs ≡ false in
    cond_both block.exit _ _ P
    (λ _. or_from (out_side number == out_side b) _ (ne_eqb (out_side number) (out_side b) (λ e. omega (arith, e, behind))) more)
    (λ _. more)

-- no two returns leave the same side
returned : (f : Arc → ℕ) (number : ℕ) (blocks : List Block) (b : ℕ)
    → sum_where (λ arc. arc.tail == out_side b) (return_arcs number blocks) (map f (return_arcs number blocks))
    ≡ (if list_any (λ arc. arc.tail == out_side b) (return_arcs number blocks) then f (free_arc (out_side b) root 0) else 0)
returned f number [] b = refl
returned f number (block ∷ blocks) b =
    cond_both block.exit _ _ P
    (λ _. elim (cases_eq number b) [ inl e ↦ here e | inr apart ↦ there (returned f (number + 1) blocks b) apart ])
    (λ _. returned f (number + 1) blocks b)
  where
    P : List Arc → Type 0
    P arcs = sum_where (λ arc. arc.tail == out_side b) arcs (map f arcs)
        ≡ (if list_any (λ arc. arc.tail == out_side b) arcs then f (free_arc (out_side b) root 0) else 0)

    here : number ≡ b → P (free_arc (out_side number) root 0 ∷ return_arcs (number + 1) blocks)
    here e =
        let behind = return_arcs (number + 1) blocks in
        let none = sum_where_none (λ arc. arc.tail == out_side b) behind (map f behind) (no_return_before (number + 1) blocks b (omega (arith, e))) in
        let passes : (out_side number == out_side b) ≡ true = eq-eqb (out_side number) (out_side b) (omega (arith, e)) in
        let same : f (free_arc (out_side number) root 0) ≡ f (free_arc (out_side b) root 0) = ap (λ (m : ℕ). f (free_arc (out_side m) root 0)) e in
        rw passes (omega (arith, none, same))

    there : P (return_arcs (number + 1) blocks) → (number ≡ b → ⊥) → P (free_arc (out_side number) root 0 ∷ return_arcs (number + 1) blocks)
    there more apart =
        let passes : (out_side number == out_side b) ≡ false = ne_eqb (out_side number) (out_side b) (λ e. apart (omega (arith, e))) in
        rw passes (omega (arith, more))

pub returns_within : (f : Arc → ℕ) (number : ℕ) (blocks : List Block) → EachArc IsWithin (return_arcs number blocks) (map f (return_arcs number blocks))
returns_within f number [] = tt
returns_within f number (block ∷ blocks) =
    let more = returns_within f (number + 1) blocks in
    let P : List Arc → Type 0 = λ arcs. EachArc IsWithin arcs (map f arcs) in
    cond_both block.exit _ _ P (λ _. ((omega arith, tt), more)) (λ _. more)

-- ---- the whole network

pub sum_of_parts : (p : Arc → Bool) (net : Network) (counts : Counts) → AreCounts net counts
    → sum_where p (arcs_of net) (loads net counts)
    ≡ (if p net.calls then calls net counts else 0) + (sum_where p net.blocks counts.blocks
    + (sum_where p net.edges counts.edges + sum_where p net.returns (map (returns net counts) net.returns)))
sum_of_parts p net counts are =
    let backs = map (returns net counts) net.returns in
    let front = sum_where-append p net.blocks (net.edges ++ net.returns) counts.blocks (counts.edges ++ backs) are.blocks in
    let back = sum_where-append p net.edges net.returns counts.edges backs are.edges in
    omega (arith, front, back)

-- what the laws of a function's network take
pub record IsWoven (blocks : List Block) (edges : List Edge) (weights edge_weights : List Weight) (counts : Counts) : Type 0 where
  pub some : 0 < length blocks
  pub joined : AllByRecursion (JoinsBlocks (length blocks)) edges
  pub weighed : length weights ≡ length blocks
  pub are : AreCounts (network_of blocks edges weights edge_weights) counts
  pub counted : length counts.blocks ≡ length blocks

pub tail_count : (blocks : List Block) (edges : List Edge) (weights edge_weights : List Weight) (counts : Counts)
    → IsWoven blocks edges weights edge_weights counts → (b : ℕ)
    → outflow (block_arcs 0 blocks weights) counts.blocks (in_side b) ≡ get_or counts.blocks b 0
tail_count blocks edges weights edge_weights counts woven b =
    block_tails_at 0 blocks weights counts.blocks b woven.weighed woven.counted ∙ count_at-is 0 counts.blocks b b (omega arith)

pub head_count : (blocks : List Block) (edges : List Edge) (weights edge_weights : List Weight) (counts : Counts)
    → IsWoven blocks edges weights edge_weights counts → (b : ℕ)
    → inflow (block_arcs 0 blocks weights) counts.blocks (out_side b) ≡ get_or counts.blocks b 0
head_count blocks edges weights edge_weights counts woven b =
    block_heads_at 0 blocks weights counts.blocks b woven.weighed woven.counted ∙ count_at-is 0 counts.blocks b b (omega arith)

-- where a block is entered
pub into_in_side : (blocks : List Block) (edges : List Edge) (weights edge_weights : List Weight) (counts : Counts)
    → IsWoven blocks edges weights edge_weights counts → (b : ℕ)
    → let net = network_of blocks edges weights edge_weights in
    inflow (arcs_of net) (loads net counts) (in_side b)
    ≡ (if in_side 0 == in_side b then calls net counts else 0) + inflow net.edges counts.edges (in_side b)
into_in_side blocks edges weights edge_weights counts woven b =
    let net = network_of blocks edges weights edge_weights in
    let p : Arc → Bool = λ arc. arc.head == in_side b in
    let parts = sum_of_parts p net counts woven.are in
    let none = sum_where_none p net.blocks counts.blocks (no_block_heads 0 blocks weights b) in
    let also = sum_where_none p net.returns (map (returns net counts) net.returns) (no_return_heads 0 blocks (in_side b) (λ e. omega (arith, e))) in
    omega (arith, parts, none, also)

pub out_of_in_side : (blocks : List Block) (edges : List Edge) (weights edge_weights : List Weight) (counts : Counts)
    → IsWoven blocks edges weights edge_weights counts → (b : ℕ)
    → let net = network_of blocks edges weights edge_weights in
    outflow (arcs_of net) (loads net counts) (in_side b) ≡ get_or counts.blocks b 0
out_of_in_side blocks edges weights edge_weights counts woven b =
    let net = network_of blocks edges weights edge_weights in
    let p : Arc → Bool = λ arc. arc.tail == in_side b in
    let parts = sum_of_parts p net counts woven.are in
    let here = tail_count blocks edges weights edge_weights counts woven b in
    let none = sum_where_none p net.edges counts.edges (no_edge_tails edges edge_weights b) in
    let also = sum_where_none p net.returns (map (returns net counts) net.returns) (no_return_tails 0 blocks b) in
    let calls_not : (root == in_side b) ≡ false = ne_eqb root (in_side b) (λ e. omega (arith, e)) in
    let no_calls : (if root == in_side b then calls net counts else 0) ≡ 0 = rw calls_not refl in
    omega (arith, parts, no_calls, here, none, also)

-- where a block is left
pub into_out_side : (blocks : List Block) (edges : List Edge) (weights edge_weights : List Weight) (counts : Counts)
    → IsWoven blocks edges weights edge_weights counts → (b : ℕ)
    → let net = network_of blocks edges weights edge_weights in
    inflow (arcs_of net) (loads net counts) (out_side b) ≡ get_or counts.blocks b 0
into_out_side blocks edges weights edge_weights counts woven b =
    let net = network_of blocks edges weights edge_weights in
    let p : Arc → Bool = λ arc. arc.head == out_side b in
    let parts = sum_of_parts p net counts woven.are in
    let here = head_count blocks edges weights edge_weights counts woven b in
    let none = sum_where_none p net.edges counts.edges (no_edge_heads edges edge_weights b) in
    let also = sum_where_none p net.returns (map (returns net counts) net.returns) (no_return_heads 0 blocks (out_side b) (λ e. omega (arith, e))) in
    let calls_not : (in_side 0 == out_side b) ≡ false = sides_apart 0 b in
    let no_calls : (if in_side 0 == out_side b then calls net counts else 0) ≡ 0 = rw calls_not refl in
    omega (arith, parts, no_calls, here, none, also)

pub out_of_out_side : (blocks : List Block) (edges : List Edge) (weights edge_weights : List Weight) (counts : Counts)
    → IsWoven blocks edges weights edge_weights counts → (b : ℕ)
    → let net = network_of blocks edges weights edge_weights in
    outflow (arcs_of net) (loads net counts) (out_side b)
    ≡ outflow net.edges counts.edges (out_side b)
    + (if list_any (λ arc. arc.tail == out_side b) net.returns then get_or counts.blocks b 0 - outflow net.edges counts.edges (out_side b) else 0)
out_of_out_side blocks edges weights edge_weights counts woven b =
    let net = network_of blocks edges weights edge_weights in
    let p : Arc → Bool = λ arc. arc.tail == out_side b in
    let parts = sum_of_parts p net counts woven.are in
    let none = sum_where_none p net.blocks counts.blocks (no_block_tails 0 blocks weights b) in
    let calls_not : (root == out_side b) ≡ false = ne_eqb root (out_side b) (λ e. omega (arith, e)) in
    let no_calls : (if root == out_side b then calls net counts else 0) ≡ 0 = rw calls_not refl in
    let went = returned (returns net counts) 0 blocks b in
    let here = head_count blocks edges weights edge_weights counts woven b in
    let back = rw here at went in
    omega (arith, parts, no_calls, none, back)
