-- All blocks and edges pass their tests exactly where counts conserve within bounds and prices fit them.
use Rattle.std.proofs.Common.{◌≡◌, ℕ, ◌+◌, ◌-◌, ◌<◌, ◌≤◌, ◌==◌, true, List, [], ◌∷◌, ◌++◌, length, get_or, map, refl, arith, ap, sym, subst, inl, inr, ◌⊎◌}
use Rattle.std.specs.Prelude.{ℤ}
use Rattle.std.specs.Bool.{OnTrue}
use Rattle.std.specs.List.{list_any}
use Rattle.std.proofs.lemmas.Bool.{eq-eqb, eqb-true, cases_lt, cond_both, or_cases, or_left, or_right, both_ways, OnTrue_at, OnTrue_from}
use Rattle.block_model.specs.declared.parts.Block.{Block}
use Rattle.block_model.specs.declared.parts.Edge.{Edge}
use Rattle.block_model.specs.declared.parts.Weight.{Weight}
use Rattle.flow_model.specs.declared.arc.Arc.{Arc}
use Rattle.flow_model.specs.Circulation.{root, EachArc, IsWithin, inflow, outflow}
use Rattle.flow_model.specs.Network.{in_side, out_side, free_arc, return_arcs, Network, network_of, Counts, calls, returns}
use Rattle.flow_model.specs.Prices.{FitsOn}
use Rattle.flow_model.specs.Repair.{AreCounts, ConserveWithinBounds, FitCounts}
use Rattle.flow_model.proofs.LawLemmas.{fitting_prices_show_least_counts}
use Rattle.flow_model.specs.BalanceLaws.{TestsAreExact, TestsShowLeast}
use Rattle.flow_model.specs.Passing.{AllTestsPass, AreCalls, PassesBlock, PassesEdge, came_by_edges, went_by_edges, is_entry, is_exit}
use Rattle.flow_model.specs.Sound.{IsNet}
use Rattle.flow_model.proofs.ArcLemmas.{each-length, each_split, each_join, each_from, each_from_both}
use Rattle.flow_model.proofs.NetLemmas.{IsWoven, tail_count, head_count, each_by_number, each_at_number, no_return_behind}
use Rattle.flow_model.proofs.BalanceLemmas.{ArcBalances, ArcsBalance, arcs_balance, woven_from}

-- ---- the arcs of returns

-- a fact of the return from each exit is one of each return
each_return : (Q : Arc → ℕ → Type 0) (f : Arc → ℕ) (number : ℕ) (blocks : List Block)
    → ((b : ℕ) → list_any (λ back. back.tail == out_side b) (return_arcs number blocks) ≡ true → Q (free_arc (out_side b) root 0) (f (free_arc (out_side b) root 0)))
    → EachArc Q (return_arcs number blocks) (map f (return_arcs number blocks))
each_return Q f number [] = λ all. tt
each_return Q f number (block ∷ blocks) = cond_both block.exit _ _ P
    (λ _ all. (
      all number (or_left (out_side number == out_side number) _ (eq-eqb (out_side number) (out_side number) refl)),
      each_return Q f (number + 1) blocks (λ b more. all b (or_right (out_side number == out_side b) _ more)),
    ))
    (λ _. each_return Q f (number + 1) blocks)
  where
    P : List Arc → Type 0
    P arcs = ((b : ℕ) → list_any (λ back. back.tail == out_side b) arcs ≡ true → Q (free_arc (out_side b) root 0) (f (free_arc (out_side b) root 0)))
        → EachArc Q arcs (map f arcs)

return_at : (Q : Arc → ℕ → Type 0) (f : Arc → ℕ) (b : ℕ) (number : ℕ) (blocks : List Block)
    → EachArc Q (return_arcs number blocks) (map f (return_arcs number blocks))
    → list_any (λ back. back.tail == out_side b) (return_arcs number blocks) ≡ true
    → Q (free_arc (out_side b) root 0) (f (free_arc (out_side b) root 0))
return_at Q f b number [] = λ each none. absurd (cc)
return_at Q f b number (block ∷ blocks) = cond_both block.exit _ _ P
    (λ _ each some. elim (or_cases (out_side number == out_side b) _ some) [
      | inl here ↦
          let same = eqb-true (out_side number) (out_side b) here in
          subst (λ (side : ℕ). Q (free_arc side root 0) (f (free_arc side root 0))) same each.0
      | inr later ↦ return_at Q f b (number + 1) blocks each.1 later
    ])
    (λ _. return_at Q f b (number + 1) blocks)
  where
    P : List Arc → Type 0
    P arcs = EachArc Q arcs (map f arcs) → list_any (λ back. back.tail == out_side b) arcs ≡ true
        → Q (free_arc (out_side b) root 0) (f (free_arc (out_side b) root 0))

-- ---- all pass, so counts conserve and prices fit

fit_from : (blocks : List Block) (edges : List Edge) (weights edge_weights : List Weight) (counts : Counts) (price : ℕ → ℤ)
    → IsWoven blocks edges weights edge_weights counts
    → let net = network_of blocks edges weights edge_weights in
    EachArc (PassesBlock net counts price) net.blocks counts.blocks → EachArc (PassesEdge price) net.edges counts.edges
    → (net.calls.lower ≤ calls net counts) × FitCounts price net counts
fit_from blocks edges weights edge_weights counts price woven pass edges_pass =
    let net = network_of blocks edges weights edge_weights in
    let Pass = PassesBlock net counts price in
    let counted = woven.counted in
    let some = woven.some in
    let first = each_at_number Pass 0 blocks weights counts.blocks pass 0 0 (omega arith) (omega (arith, counted, some)) in
    let called : AreCalls net price (get_or counts.blocks 0 0 - inflow net.edges counts.edges (in_side 0)) = first.2.entered.called in
    let calls_are : get_or counts.blocks 0 0 - inflow net.edges counts.edges (in_side 0) ≡ calls net counts
    = ap (λ (n : ℕ). n - inflow net.edges counts.edges (in_side 0)) (sym (tail_count blocks edges weights edge_weights counts woven 0)) in
    let are = subst (AreCalls net price) calls_are called in
    let backs = map (returns net counts) net.returns in
    let fit_blocks = each_from Pass (FitsOn price) (λ arc n here. here.fits) net.blocks counts.blocks pass in
    let fit_edges = each_from (PassesEdge price) (FitsOn price) (λ arc n here. here.fits) net.edges counts.edges edges_pass in
    let fit_back = λ (b : ℕ) (exits : list_any (λ back. back.tail == out_side b) net.returns ≡ true). at_exit b exits (cases_lt b (length blocks)) in
    let fit_returns = each_return (FitsOn price) (returns net counts) 0 blocks fit_back in (
      are.enough,
      (
        are.fits,
        each_join (FitsOn price) net.blocks (net.edges ++ net.returns) counts.blocks (counts.edges ++ backs) fit_blocks
            (each_join (FitsOn price) net.edges net.returns counts.edges backs fit_edges fit_returns),
      ),
    )
  where
    at_exit : (b : ℕ) → list_any (λ back. back.tail == out_side b) (return_arcs 0 blocks) ≡ true → (b < length blocks) ⊎ (length blocks ≤ b)
        → FitsOn price (free_arc (out_side b) root 0) (returns (network_of blocks edges weights edge_weights) counts (free_arc (out_side b) root 0))
    at_exit b exits (inl within) =
        let net = network_of blocks edges weights edge_weights in
        let Pass = PassesBlock net counts price in
        let counted = woven.counted in
        let here = each_at_number Pass 0 blocks weights counts.blocks pass b b (omega arith) (omega (arith, counted, within)) in
        let fits = OnTrue_at exits here.2.left.returned in
        let same : get_or counts.blocks b 0 - outflow net.edges counts.edges (out_side b) ≡ returns net counts (free_arc (out_side b) root 0)
        = ap (λ (n : ℕ). n - outflow net.edges counts.edges (out_side b)) (sym (head_count blocks edges weights edge_weights counts woven b)) in
        subst (FitsOn price (free_arc (out_side b) root 0)) same fits
    at_exit b exits (inr behind) = absurd (both_ways _ (no_return_behind 0 blocks b (omega (arith, behind))) exits)

-- ---- counts conserve and prices fit, so all pass

pass_from : (blocks : List Block) (edges : List Edge) (weights edge_weights : List Weight) (counts : Counts) (price : ℕ → ℤ)
    → IsWoven blocks edges weights edge_weights counts
    → let net = network_of blocks edges weights edge_weights in
    ArcsBalance net counts → FitCounts price net counts → AllTestsPass net counts price
pass_from blocks edges weights edge_weights counts price woven balanced fit =
    let net = network_of blocks edges weights edge_weights in
    let backs = map (returns net counts) net.returns in
    let front = each_split (FitsOn price) net.blocks (net.edges ++ net.returns) counts.blocks (counts.edges ++ backs) woven.are.blocks fit.1 in
    let back = each_split (FitsOn price) net.edges net.returns counts.edges backs woven.are.edges front.1 in
    let Ends : Arc → ℕ → Type 0 = λ arc n.
    OnTrue (is_entry net arc) (AreCalls net price (n - came_by_edges net counts arc))
    × OnTrue (is_exit net arc) (FitsOn price (free_arc arc.head root 0) (n - went_by_edges net counts arc)) in
    let Both : Arc → ℕ → Type 0 = λ arc n. ArcBalances net counts arc n × FitsOn price arc n in
    let ends = each_by_number Ends 0 blocks weights counts.blocks woven.weighed woven.counted
    (λ b k block weight e. let same : k ≡ b = omega (arith, e) in rw same (at_entry b fit.0 balanced.called, at_exit b back.1)) in
    let both = each_from_both (ArcBalances net counts) (FitsOn price) Both (λ arc n here also. (here, also)) net.blocks counts.blocks balanced.blocks front.0 in record {
      blocks = each_from_both Both Ends (PassesBlock net counts price)
          (λ arc n here ends. record {
            within = here.0.within;
            fits = here.1;
            entered = record { made_up = here.0.entered; called = ends.0 };
            left = record { made_up = here.0.left; returned = ends.1 };
          })
          net.blocks counts.blocks both ends;
      edges = each_from_both IsWithin (FitsOn price) (PassesEdge price) (λ arc n here also. record { within = here; fits = also }) net.edges counts.edges balanced.edges back.0;
    }
  where
    at_entry : (b : ℕ) → let net = network_of blocks edges weights edge_weights in
        FitsOn price net.calls (calls net counts) → net.calls.lower ≤ calls net counts
        → OnTrue (in_side b == in_side 0) (AreCalls net price (get_or counts.blocks b 0 - inflow net.edges counts.edges (in_side b)))
    at_entry b fits enough =
        let net = network_of blocks edges weights edge_weights in
        let here : AreCalls net price (calls net counts) = record { enough = enough; fits = fits } in
        OnTrue_from (in_side b == in_side 0) _
        (λ e.
        let zero_is : 0 ≡ b = let same = eqb-true (in_side b) (in_side 0) e in omega (arith, same) in
        let same : calls net counts ≡ get_or counts.blocks 0 0 - inflow net.edges counts.edges (in_side 0)
        = ap (λ (n : ℕ). n - inflow net.edges counts.edges (in_side 0)) (tail_count blocks edges weights edge_weights counts woven 0) in
        subst (λ (k : ℕ). AreCalls net price (get_or counts.blocks k 0 - inflow net.edges counts.edges (in_side k))) zero_is (subst (AreCalls net price) same here))

    at_exit : (b : ℕ) → let net = network_of blocks edges weights edge_weights in
        EachArc (FitsOn price) net.returns (map (returns net counts) net.returns)
        → OnTrue (list_any (λ back. back.tail == out_side b) net.returns)
        (FitsOn price (free_arc (out_side b) root 0) (get_or counts.blocks b 0 - outflow net.edges counts.edges (out_side b)))
    at_exit b each =
        let net = network_of blocks edges weights edge_weights in
        let same : returns net counts (free_arc (out_side b) root 0) ≡ get_or counts.blocks b 0 - outflow net.edges counts.edges (out_side b)
        = ap (λ (n : ℕ). n - outflow net.edges counts.edges (out_side b)) (head_count blocks edges weights edge_weights counts woven b) in
        OnTrue_from (list_any (λ back. back.tail == out_side b) net.returns) _
        (λ exits. subst (FitsOn price (free_arc (out_side b) root 0)) same (return_at (FitsOn price) (returns net counts) b 0 blocks each exits))

-- ---- both

conserve_and_fit : (net : Network) (counts : Counts) (price : ℕ → ℤ) → IsNet net → AllTestsPass net counts price
    → ConserveWithinBounds net counts × FitCounts price net counts
conserve_and_fit net counts price is = subst P (sym is.same) here
  where
    P : Network → Type 0
    P net = AllTestsPass net counts price → ConserveWithinBounds net counts × FitCounts price net counts

    here : P (network_of is.blocks is.edges is.weights is.edge_weights)
    here all =
        let net = network_of is.blocks is.edges is.weights is.edge_weights in
        let are : AreCounts net counts = record {
          blocks = each-length (PassesBlock net counts price) net.blocks counts.blocks all.blocks;
          edges = each-length (PassesEdge price) net.edges counts.edges all.edges;
        } in
        let woven = woven_from is.blocks is.edges is.weights is.edge_weights counts is.sound is.block_weighed are in
        let fit = fit_from is.blocks is.edges is.weights is.edge_weights counts price woven all.blocks all.edges in
        let this : IsNet net = subst IsNet is.same is in
        let balanced : ArcsBalance net counts = record {
          each = are;
          blocks = each_from (PassesBlock net counts price) (ArcBalances net counts) (λ arc n here. record { within = here.within; entered = here.entered.made_up; left = here.left.made_up }) net.blocks counts.blocks all.blocks;
          edges = each_from (PassesEdge price) IsWithin (λ arc n here. here.within) net.edges counts.edges all.edges;
          called = fit.0;
        } in
        ((arcs_balance net counts this).1 balanced, fit.1)

all_pass_from : (net : Network) (counts : Counts) (price : ℕ → ℤ) → IsNet net
    → ConserveWithinBounds net counts → FitCounts price net counts → AllTestsPass net counts price
all_pass_from net counts price is = subst P (sym is.same) here
  where
    P : Network → Type 0
    P net = ConserveWithinBounds net counts → FitCounts price net counts → AllTestsPass net counts price

    here : P (network_of is.blocks is.edges is.weights is.edge_weights)
    here conserve fit =
        let net = network_of is.blocks is.edges is.weights is.edge_weights in
        let woven = woven_from is.blocks is.edges is.weights is.edge_weights counts is.sound is.block_weighed conserve.each in
        let this : IsNet net = subst IsNet is.same is in
        pass_from is.blocks is.edges is.weights is.edge_weights counts price woven ((arcs_balance net counts this).0 conserve) fit

pub tests_are_exact : TestsAreExact
tests_are_exact net counts price is = (
  conserve_and_fit net counts price is,
  λ both. all_pass_from net counts price is both.0 both.1,
)

pub tests_show_least : TestsShowLeast
tests_show_least net counts price is all =
    let both = conserve_and_fit net counts price is all in
    fitting_prices_show_least_counts net counts price both.0 both.1
