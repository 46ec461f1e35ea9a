-- A network's arcs in coarser units.
use Rattle.std.proofs.Common.{◌≡◌, ℕ, ◌+◌, ◌*◌, List, [], ◌∷◌, ◌++◌, map, length, refl, arith, ap, sym, subst, ◌∙◌}
use Rattle.std.specs.Prelude.{drop}
use Rattle.std.proofs.lemmas.List.{drop-drop, length-map}
use Rattle.flow_model.specs.declared.arc.Arc.{Arc}
use Rattle.flow_model.specs.Network.{Network, arcs_of}
use Rattle.flow_model.specs.Sound.{IsNet}
use Rattle.scaling_model.specs.Coarse.{coarse, coarse_arc}
use Rattle.scaling_model.proofs.HalvedLemmas.{coarse_nets_are_nets}
use Rattle.flow_network.specs.Net.{KeepsNet, heads_of, network_by, tails_of}
use Rattle.flow_network.specs.Table.{AreRows}
use Rattle.flow_network.specs.declared.rows.KeyRows.{KeyRows}
use Rattle.flow_network.proofs.NetLemmas.{network_by-arcs}

-- the sides of arcs stay
tails_more : (shift : ℕ) (arcs rest more : List Arc) → tails_of more ≡ tails_of rest → tails_of (map (coarse_arc shift) arcs ++ more) ≡ tails_of (arcs ++ rest)
tails_more shift [] rest more same = same
tails_more shift (arc ∷ arcs) rest more same = ap (λ (list : List ℕ). arc.tail ∷ list) (tails_more shift arcs rest more same)

heads_more : (shift : ℕ) (arcs rest more : List Arc) → heads_of more ≡ heads_of rest → heads_of (map (coarse_arc shift) arcs ++ more) ≡ heads_of (arcs ++ rest)
heads_more shift [] rest more same = same
heads_more shift (arc ∷ arcs) rest more same = ap (λ (list : List ℕ). arc.head ∷ list) (heads_more shift arcs rest more same)

pub tails_same : (shift : ℕ) (net : Network) → tails_of (arcs_of (coarse shift net)) ≡ tails_of (arcs_of net)
tails_same shift net =
    ap (λ (list : List ℕ). net.calls.tail ∷ list)
    (tails_more shift net.blocks _ _ (tails_more shift net.edges net.returns net.returns refl))

pub heads_same : (shift : ℕ) (net : Network) → heads_of (arcs_of (coarse shift net)) ≡ heads_of (arcs_of net)
heads_same shift net =
    ap (λ (list : List ℕ). net.calls.head ∷ list)
    (heads_more shift net.blocks _ _ (heads_more shift net.edges net.returns net.returns refl))

-- the same rows once more
pub record AreCopied (rows copy : KeyRows) : Type 0 where
  pub starts : copy.starts.items ≡ rows.starts.items
  pub places : copy.places.items ≡ rows.places.items

rows_copied : (keys : List ℕ) (count : ℕ) (rows copy : KeyRows) → AreCopied rows copy → AreRows keys count rows → AreRows keys count copy
rows_copied keys count rows copy are all key below =
    let was = all key below in (
      record {
        listed = rw are.starts was.0.listed;
        ordered = rw are.starts was.0.ordered;
        within = rw (are.starts, are.places) was.0.within;
      },
      rw (are.starts, are.places) was.1,
    )

-- what a network and copies of its rows give
pub record IsCoarsened (shift : ℕ) (arcs : List Arc) (blocks edges : ℕ) (leaving entering : KeyRows) (new_arcs : List Arc)
    (new_leaving new_entering : KeyRows) : Type 0 where
  pub keeps : KeepsNet arcs blocks edges leaving entering
  pub arcs_are : new_arcs ≡ arcs_of (coarse shift (network_by arcs blocks edges))
  pub leave : AreCopied leaving new_leaving
  pub enter : AreCopied entering new_entering

pub view_coarsened : (shift : ℕ) (arcs : List Arc) (blocks edges : ℕ) (leaving entering : KeyRows) (new_arcs : List Arc)
    (new_leaving new_entering : KeyRows) → IsCoarsened shift arcs blocks edges leaving entering new_arcs new_leaving new_entering
    → network_by new_arcs blocks edges ≡ coarse shift (network_by arcs blocks edges)
view_coarsened shift arcs blocks edges leaving entering new_arcs new_leaving new_entering made =
    let net = network_by arcs blocks edges in
    let keeps = made.keeps in
    ap (λ (list : List Arc). network_by list blocks edges)
    made.arcs_are
    ∙ network_by-arcs (coarse shift net) blocks edges (length-map net.blocks (coarse_arc shift) ∙ keeps.block_count)
    (length-map net.edges (coarse_arc shift) ∙ keeps.edge_count)

pub keeps_coarsened : (shift : ℕ) (arcs : List Arc) (blocks edges : ℕ) (leaving entering : KeyRows) (new_arcs : List Arc)
    (new_leaving new_entering : KeyRows) → IsCoarsened shift arcs blocks edges leaving entering new_arcs new_leaving new_entering
    → KeepsNet new_arcs blocks edges new_leaving new_entering
keeps_coarsened shift arcs blocks edges leaving entering new_arcs new_leaving new_entering made =
    let net = network_by arcs blocks edges in
    let keeps = made.keeps in
    let are = made.arcs_are in
    let view = view_coarsened shift arcs blocks edges leaving entering new_arcs new_leaving new_entering made in
    let tails : tails_of new_arcs ≡ tails_of arcs = ap tails_of are ∙ (tails_same shift net ∙ sym (ap tails_of keeps.all)) in
    let heads : heads_of new_arcs ≡ heads_of arcs = ap heads_of are ∙ (heads_same shift net ∙ sym (ap heads_of keeps.all)) in
    record {
      net = subst IsNet (sym view) (coarse_nets_are_nets shift net keeps.net);
      all = subst (λ (n : Network). new_arcs ≡ arcs_of n) (sym view) are;
      block_count = subst (λ (n : Network). length n.blocks ≡ blocks) (sym view) (length-map net.blocks (coarse_arc shift) ∙ keeps.block_count);
      edge_count = subst (λ (n : Network). length n.edges ≡ edges) (sym view) (length-map net.edges (coarse_arc shift) ∙ keeps.edge_count);
      leave = subst (λ (keys : List ℕ). AreRows keys (2 * blocks + 1) new_leaving) (sym tails)
          (rows_copied (tails_of arcs) (2 * blocks + 1) leaving new_leaving made.leave keeps.leave);
      enter = subst (λ (keys : List ℕ). AreRows keys (2 * blocks + 1) new_entering) (sym heads)
          (rows_copied (heads_of arcs) (2 * blocks + 1) entering new_entering made.enter keeps.enter);
    }

-- ---- the arcs that were put together

pub record ArePutTogether (shift : ℕ) (net : Network) (arcs : List Arc) (calls : Arc) (blocks edges returns new_arcs : List Arc) : Type 0 where
  pub calls_are : calls ≡ net.calls
  pub blocks_are : blocks ≡ net.blocks
  pub edges_are : edges ≡ net.edges
  pub returns_are : returns ≡ net.returns
  pub together : new_arcs ≡ calls ∷ (map (coarse_arc shift) blocks ++ (map (coarse_arc shift) edges ++ returns))

pub put_together : (shift : ℕ) (net other : Network) (arcs : List Arc) (calls : Arc) (blocks edges returns new_arcs : List Arc)
    → ArePutTogether shift net arcs calls blocks edges returns new_arcs → net ≡ other → new_arcs ≡ arcs_of (coarse shift other)
put_together shift net other arcs calls blocks edges returns new_arcs are same =
    are.together ∙ (rw (are.calls_are, are.blocks_are, are.edges_are, are.returns_are) refl
    ∙ ap (λ (n : Network). arcs_of (coarse shift n)) same)

-- what is behind the arcs of edges
pub rest_behind : (arcs : List Arc) (blocks edges : ℕ) → drop edges (drop blocks (drop 1 arcs)) ≡ drop (1 + blocks + edges) arcs
rest_behind arcs blocks edges =
    let e : 1 + (blocks + edges) ≡ 1 + blocks + edges = omega arith in
    drop-drop edges blocks (drop 1 arcs) ∙ (drop-drop (blocks + edges) 1 arcs ∙ ap (λ (n : ℕ). drop n arcs) e)
