-- What a circulation has on the arcs of calls and returns.
use Rattle.std.proofs.Common.{◌≡◌, ℕ, ◌+◌, ◌==◌, Bool, true, false, List, [], ◌∷◌, ◌++◌, length, take, drop, map, if◌then◌else◌, refl, arith, sym, ◌∙◌, ap, subst, inl, inr, length-append, length-drop}
use Rattle.std.specs.List.{list_any}
use Rattle.std.proofs.lemmas.Bool.{eq-eqb, ne_eqb, cases_eq, cond_both}
use Rattle.std.proofs.lemmas.List.{length-take-le, take-append-drop}
use Rattle.block_model.specs.declared.parts.Block.{Block}
use Rattle.block_model.specs.declared.parts.Edge.{Edge}
use Rattle.block_model.specs.declared.parts.Weight.{Weight}
use Rattle.flow_model.specs.declared.arc.Arc.{Arc}
use Rattle.flow_model.specs.Circulation.{root, IsWithin, sum_where, Conserve, IsCirculation}
use Rattle.flow_model.specs.Network.{in_side, out_side, free_arc, return_arcs, Network, arcs_of, network_of, Counts, calls, returns, loads}
use Rattle.flow_model.specs.Repair.{AreCounts}
use Rattle.flow_model.proofs.ArcLemmas.{sum_where-append, sum_where_none, each-length}
use Rattle.flow_model.proofs.NetLemmas.{no_block_heads, no_block_tails, no_edge_heads, no_edge_tails, no_return_before, no_return_heads, no_return_tails, sides_apart}
use Rattle.residual_model.specs.Loads.{own_counts, CirculationsAreLoads}

-- ---- the returns

-- these counts of returns add up, at each side that some return leaves, to what f says of it
Return : (Arc → ℕ) → List Arc → List ℕ → Type 0
Return f arcs counts =
    (b : ℕ) → list_any (λ arc. arc.tail == out_side b) arcs ≡ true
    → sum_where (λ arc. arc.tail == out_side b) arcs counts ≡ f (free_arc (out_side b) root 0)

returned_first : (f : Arc → ℕ) (number : ℕ) (blocks : List Block) (n : ℕ) (counts : List ℕ)
    → Return f (free_arc (out_side number) root 0 ∷ return_arcs (number + 1) blocks) (n ∷ counts) → n ≡ f (free_arc (out_side number) root 0)
unfolding Return
returned_first f number blocks n counts each =
    let itself : (out_side number == out_side number) ≡ true = eq-eqb (out_side number) (out_side number) refl in
    let some : list_any (λ arc. arc.tail == out_side number) (free_arc (out_side number) root 0 ∷ return_arcs (number + 1) blocks) ≡ true = rw itself refl in
    let here = rw itself at (each number some) in
    let none = sum_where_none (λ arc. arc.tail == out_side number) (return_arcs (number + 1) blocks) counts
    (no_return_before (number + 1) blocks number (omega arith)) in
    omega (arith, here, none)

returned_rest : (f : Arc → ℕ) (number : ℕ) (blocks : List Block) (n : ℕ) (counts : List ℕ)
    → Return f (free_arc (out_side number) root 0 ∷ return_arcs (number + 1) blocks) (n ∷ counts)
    → Return f (return_arcs (number + 1) blocks) counts
unfolding Return
returned_rest f number blocks n counts each b some =
    elim (cases_eq number b) [
      | inl e ↦
          let none = no_return_before (number + 1) blocks b (omega (arith, e)) in
          let clash : true ≡ false = sym some ∙ none in absurd (cc)
      | inr apart ↦
          let other : (out_side number == out_side b) ≡ false = ne_eqb (out_side number) (out_side b) (λ e. apart (omega (arith, e))) in
          let more : list_any (λ arc. arc.tail == out_side b) (free_arc (out_side number) root 0 ∷ return_arcs (number + 1) blocks) ≡ true = rw other some in
          let there = rw other at (each b more) in
          omega (arith, there)
    ]

returned_back : (f : Arc → ℕ) (number : ℕ) (blocks : List Block) (counts : List ℕ)
    → length counts ≡ length (return_arcs number blocks) → Return f (return_arcs number blocks) counts
    → map f (return_arcs number blocks) ≡ counts
returned_back f number [] [] same each = refl
returned_back f number [] (n ∷ counts) same each = absurd (omega (arith, same))
returned_back f number (block ∷ blocks) counts same each =
    cond_both block.exit _ _ (λ (arcs : List Arc). length counts ≡ length arcs → Return f arcs counts → map f arcs ≡ counts)
    (λ _ long all. with_exit counts (λ rest. returned_back f (number + 1) blocks rest) long all)
    (λ _ long all. returned_back f (number + 1) blocks counts long all)
    same each
  where
    with_exit : (counts : List ℕ)
        → ((rest : List ℕ) → length rest ≡ length (return_arcs (number + 1) blocks) → Return f (return_arcs (number + 1) blocks) rest
        → map f (return_arcs (number + 1) blocks) ≡ rest)
        → length counts ≡ length (free_arc (out_side number) root 0 ∷ return_arcs (number + 1) blocks)
        → Return f (free_arc (out_side number) root 0 ∷ return_arcs (number + 1) blocks) counts
        → map f (free_arc (out_side number) root 0 ∷ return_arcs (number + 1) blocks) ≡ counts
    with_exit [] more long all = absurd (omega (arith, long))
    with_exit (n ∷ rest) more long all =
        let first = returned_first f number blocks n rest all in
        let others = more rest (omega (arith, long)) (returned_rest f number blocks n rest all) in
        rw (others, sym first) refl

-- ---- the whole network

-- counts of its parts: there is one for each arc
record Fits (net : Network) (b e r : List ℕ) : Type 0 where
  pub blocks : length b ≡ length net.blocks
  pub edges : length e ≡ length net.edges
  pub returns : length r ≡ length net.returns

sum_of_parts : (p : Arc → Bool) (net : Network) (n : ℕ) (b e r : List ℕ) → Fits net b e r
    → sum_where p (arcs_of net) (n ∷ (b ++ (e ++ r)))
    ≡ (if p net.calls then n else 0) + (sum_where p net.blocks b + (sum_where p net.edges e + sum_where p net.returns r))
sum_of_parts p net n b e r fits =
    let front = sum_where-append p net.blocks (net.edges ++ net.returns) b (e ++ r) fits.blocks in
    let back = sum_where-append p net.edges net.returns e r fits.edges in
    omega (arith, front, back)

-- at the entry: what calls bring is what passes the block and came by no edge
called : (blocks : List Block) (edges : List Edge) (weights edge_weights : List Weight) (n : ℕ) (b e r : List ℕ)
    → let net = network_of blocks edges weights edge_weights in
    Fits net b e r → Conserve (arcs_of net) (n ∷ (b ++ (e ++ r))) → calls net (record { blocks = b; edges = e }) ≡ n
called blocks edges weights edge_weights n b e r fits conserve =
    let net = network_of blocks edges weights edge_weights in
    let enters : Arc → Bool = λ arc. arc.head == in_side 0 in
    let starts : Arc → Bool = λ arc. arc.tail == in_side 0 in
    let at = conserve (in_side 0) (λ e. omega (arith, e)) in
    let into = sum_of_parts enters net n b e r fits in
    let out = sum_of_parts starts net n b e r fits in
    let no_blocks = sum_where_none enters net.blocks b (no_block_heads 0 blocks weights 0) in
    let no_returns = sum_where_none enters net.returns r (no_return_heads 0 blocks (in_side 0) (λ e. omega (arith, e))) in
    let no_edges = sum_where_none starts net.edges e (no_edge_tails edges edge_weights 0) in
    let also = sum_where_none starts net.returns r (no_return_tails 0 blocks 0) in
    omega (arith, at, into, out, no_blocks, no_returns, no_edges, also)

-- at each exit: what returns take is what passed the block and left by no edge
returned : (blocks : List Block) (edges : List Edge) (weights edge_weights : List Weight) (n : ℕ) (b e r : List ℕ)
    → let net = network_of blocks edges weights edge_weights in
    Fits net b e r → Conserve (arcs_of net) (n ∷ (b ++ (e ++ r)))
    → Return (returns net (record { blocks = b; edges = e })) net.returns r
unfolding Return
returned blocks edges weights edge_weights n b e r fits conserve side some =
    let net = network_of blocks edges weights edge_weights in
    let enters : Arc → Bool = λ arc. arc.head == out_side side in
    let starts : Arc → Bool = λ arc. arc.tail == out_side side in
    let at = conserve (out_side side) (λ e. omega (arith, e)) in
    let into = sum_of_parts enters net n b e r fits in
    let out = sum_of_parts starts net n b e r fits in
    let calls_enter : (in_side 0 == out_side side) ≡ false = sides_apart 0 side in
    let calls_start : (root == out_side side) ≡ false = ne_eqb root (out_side side) (λ e. omega (arith, e)) in
    let no_calls : (if in_side 0 == out_side side then n else 0) ≡ 0 = rw calls_enter refl in
    let no_calls_out : (if root == out_side side then n else 0) ≡ 0 = rw calls_start refl in
    let no_edges = sum_where_none enters net.edges e (no_edge_heads edges edge_weights side) in
    let no_returns = sum_where_none enters net.returns r (no_return_heads 0 blocks (out_side side) (λ e. omega (arith, e))) in
    let no_blocks = sum_where_none starts net.blocks b (no_block_tails 0 blocks weights side) in
    omega (arith, at, into, out, no_calls, no_calls_out, no_edges, no_returns, no_blocks)

loaded : (blocks : List Block) (edges : List Edge) (weights edge_weights : List Weight) (n : ℕ) (b e r : List ℕ)
    → let net = network_of blocks edges weights edge_weights in
    Fits net b e r → Conserve (arcs_of net) (n ∷ (b ++ (e ++ r))) → loads net (record { blocks = b; edges = e }) ≡ n ∷ (b ++ (e ++ r))
loaded blocks edges weights edge_weights n b e r fits conserve =
    let net = network_of blocks edges weights edge_weights in
    let own : Counts = record { blocks = b; edges = e } in
    let first = called blocks edges weights edge_weights n b e r fits conserve in
    let backs = returned_back (returns net own) 0 blocks r fits.returns (returned blocks edges weights edge_weights n b e r fits conserve) in
    let rest : map (returns net own) net.returns ≡ r = backs in
    ap (λ (m : ℕ). m ∷ (b ++ (e ++ map (returns net own) net.returns))) first ∙ ap (λ (back : List ℕ). n ∷ (b ++ (e ++ back))) rest

-- the parts of a list of counts
split : (net : Network) (n : ℕ) (rest : List ℕ) → length rest ≡ length net.blocks + (length net.edges + length net.returns)
    → let b = take (length net.blocks) rest in
    let e = take (length net.edges) (drop (length net.blocks) rest) in
    let r = drop (length net.edges) (drop (length net.blocks) rest) in
    Fits net b e r × (n ∷ (b ++ (e ++ r)) ≡ n ∷ rest)
split net n rest long =
    let behind = drop (length net.blocks) rest in
    let left = length-drop (length net.blocks) rest in
    let front = length-take-le (length net.blocks) rest (omega (arith, long)) in
    let middle = length-take-le (length net.edges) behind (omega (arith, long, left)) in
    let back = length-drop (length net.edges) behind in
    let whole = take-append-drop (length net.blocks) rest in
    let inner = take-append-drop (length net.edges) behind in (
      record { blocks = front; edges = middle; returns = omega (arith, long, left, back) },
      ap (λ (part : List ℕ). n ∷ (take (length net.blocks) rest ++ part)) inner ∙ ap (λ (part : List ℕ). n ∷ part) whole,
    )

loads_of : (blocks : List Block) (edges : List Edge) (weights edge_weights : List Weight) (counts : List ℕ)
    → let net = network_of blocks edges weights edge_weights in
    IsCirculation (arcs_of net) counts
    → (loads net (own_counts net counts) ≡ counts) × AreCounts net (own_counts net counts)
loads_of blocks edges weights edge_weights [] circulation = absurd circulation.within
loads_of blocks edges weights edge_weights (n ∷ rest) circulation =
    let net = network_of blocks edges weights edge_weights in
    let long = each-length IsWithin (arcs_of net) (n ∷ rest) circulation.within in
    let inner = length-append net.blocks (net.edges ++ net.returns) in
    let outer = length-append net.edges net.returns in
    let parts = split net n rest (omega (arith, long, inner, outer)) in
    let conserve = subst (λ (all : List ℕ). Conserve (arcs_of net) all) (sym parts.1) circulation.conserve in
    let b = take (length net.blocks) rest in
    let e = take (length net.edges) (drop (length net.blocks) rest) in
    let r = drop (length net.edges) (drop (length net.blocks) rest) in (
      loaded blocks edges weights edge_weights n b e r parts.0 conserve ∙ parts.1,
      record { blocks = parts.0.blocks; edges = parts.0.edges },
    )

pub circulations_are_loads : CirculationsAreLoads
circulations_are_loads net counts is circulation =
    let here = network_of is.blocks is.edges is.weights is.edge_weights in
    let same : net ≡ here = is.same in
    let at = subst (λ (net : Network). IsCirculation (arcs_of net) counts) same circulation in
    let found = loads_of is.blocks is.edges is.weights is.edge_weights counts at in
    let back = subst (λ (net : Network). (loads net (own_counts net counts) ≡ counts) × AreCounts net (own_counts net counts)) (sym same) found in (
      back.0,
      record { each = back.1; circulation = subst (λ (all : List ℕ). IsCirculation (arcs_of net) all) (sym back.0) circulation },
    )
