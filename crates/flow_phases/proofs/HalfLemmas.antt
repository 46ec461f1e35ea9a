-- Arcs in units of twice the size, arc by arc.
use Rattle.std.proofs.Common.{◌≡◌, ℕ, zero, suc, ◌+◌, ◌*◌, ◌<◌, ◌==◌, Bool, true, false, List, [], ◌∷◌, ◌++◌, map, length, if◌then◌else◌, inl, inr, refl, arith, ap, sym, ◌∙◌, subst}
use Rattle.std.specs.Prelude.{⊤}
use Rattle.std.proofs.lemmas.Bool.{cond_both}
use Rattle.block_model.specs.declared.parts.Block.{Block}
use Rattle.flow_model.specs.declared.arc.Arc.{Arc}
use Rattle.flow_model.specs.Circulation.{sum_where}
use Rattle.flow_model.specs.Network.{Network, arcs_of, network_of, return_arcs, some_sampled}
use Rattle.flow_model.specs.Sound.{IsNet}
use Rattle.scaling_model.specs.Coarse.{coarse}
use Rattle.scaling_model.specs.Laws.{halved_arc, halved, IsHalfOf}
use Rattle.scaling_model.proofs.CoarseLemmas.{shifts_halve}
use Rattle.scaling_model.proofs.HalvedLemmas.{coarse_nets_are_nets, one_call}
use Rattle.path_search.specs.Ground.{arc_at}

-- each arc of one list is in units of twice the size what the arc of the other list is
pub AreHalves : List Arc → List Arc → Type 0
AreHalves [] [] = ⊤
AreHalves (half ∷ halves) (arc ∷ arcs) = IsHalfOf half arc × AreHalves halves arcs
AreHalves _ _ = ⊥

halves_more : (arcs half_rest rest : List Arc) → AreHalves half_rest rest → AreHalves (map halved_arc arcs ++ half_rest) (arcs ++ rest)
unfolding AreHalves
halves_more [] half_rest rest are = are
halves_more (arc ∷ arcs) half_rest rest are = (inl refl, halves_more arcs half_rest rest are)

halves_of_returns : (number : ℕ) (blocks : List Block) → AreHalves (return_arcs number blocks) (return_arcs number blocks)
unfolding AreHalves
halves_of_returns number [] = tt
halves_of_returns number (block ∷ blocks) =
    let more = halves_of_returns (number + 1) blocks in
    let P : List Arc → Type 0 = λ arcs. AreHalves arcs arcs in
    cond_both block.exit _ _ P (λ _. (inr (0, omega arith, refl, refl), more)) (λ _. more)

pub halves_of_net : (net : Network) → IsNet net → AreHalves (arcs_of (halved net)) (arcs_of net)
unfolding AreHalves
halves_of_net net is =
    let made = network_of is.blocks is.edges is.weights is.edge_weights in
    let are : AreHalves (arcs_of (halved made)) (arcs_of made) = (
      inr ((if some_sampled is.weights then 1 else 0), one_call is.weights, refl, refl),
      halves_more made.blocks _ _ (halves_more made.edges _ _ (halves_of_returns 0 is.blocks)),
    ) in
    subst (λ (n : Network). AreHalves (arcs_of (halved n)) (arcs_of n)) (sym is.same) are

pub half_at : (halves arcs : List Arc) → AreHalves halves arcs → (place : ℕ) → place < length arcs → IsHalfOf (arc_at halves place) (arc_at arcs place)
unfolding AreHalves
half_at [] [] are place within = absurd (omega (arith, within))
half_at [] (arc ∷ arcs) are place within = absurd are
half_at (half ∷ halves) [] are place within = absurd are
half_at (half ∷ halves) (arc ∷ arcs) are zero within = are.0
half_at (half ∷ halves) (arc ∷ arcs) are (suc place) within = half_at halves arcs are.1 place (omega (arith, within))

pub halves_each : (halves arcs : List Arc) → AreHalves halves arcs → length halves ≡ length arcs
unfolding AreHalves
halves_each [] [] are = refl
halves_each [] (arc ∷ arcs) are = absurd are
halves_each (half ∷ halves) [] are = absurd are
halves_each (half ∷ halves) (arc ∷ arcs) are = ap suc (halves_each halves arcs are.1)

same_head : (half arc : Arc) → IsHalfOf half arc → half.head ≡ arc.head
same_head half arc (inl is) = ap (λ (a : Arc). a.head) is
same_head half arc (inr is) = ap (λ (a : Arc). a.head) is.2 ∙ sym (ap (λ (a : Arc). a.head) is.3)

same_tail : (half arc : Arc) → IsHalfOf half arc → half.tail ≡ arc.tail
same_tail half arc (inl is) = ap (λ (a : Arc). a.tail) is
same_tail half arc (inr is) = ap (λ (a : Arc). a.tail) is.2 ∙ sym (ap (λ (a : Arc). a.tail) is.3)

-- what enters and leaves a node when counts are doubled
double_if : (b : Bool) (n : ℕ) → (if b then 2 * n else 0) ≡ 2 * (if b then n else 0)
double_if true n = refl
double_if false n = refl

pub inflow_doubled : (halves arcs : List Arc) (counts : List ℕ) (node : ℕ) → AreHalves halves arcs
    → sum_where (λ arc. arc.head == node) arcs (map (λ n. 2 * n) counts) ≡ 2 * sum_where (λ arc. arc.head == node) halves counts
unfolding AreHalves
inflow_doubled [] [] counts node are = refl
inflow_doubled [] (arc ∷ arcs) counts node are = absurd are
inflow_doubled (half ∷ halves) [] counts node are = absurd are
inflow_doubled (half ∷ halves) (arc ∷ arcs) [] node are = refl
inflow_doubled (half ∷ halves) (arc ∷ arcs) (n ∷ counts) node are =
    let more = inflow_doubled halves arcs counts node are.1 in
    let first = double_if (arc.head == node) n in
    let same : (if half.head == node then n else 0) ≡ (if arc.head == node then n else 0)
    = ap (λ (side : ℕ). if side == node then n else 0) (same_head half arc are.0) in
    omega (arith, more, first, same)

pub outflow_doubled : (halves arcs : List Arc) (counts : List ℕ) (node : ℕ) → AreHalves halves arcs
    → sum_where (λ arc. arc.tail == node) arcs (map (λ n. 2 * n) counts) ≡ 2 * sum_where (λ arc. arc.tail == node) halves counts
unfolding AreHalves
outflow_doubled [] [] counts node are = refl
outflow_doubled [] (arc ∷ arcs) counts node are = absurd are
outflow_doubled (half ∷ halves) [] counts node are = absurd are
outflow_doubled (half ∷ halves) (arc ∷ arcs) [] node are = refl
outflow_doubled (half ∷ halves) (arc ∷ arcs) (n ∷ counts) node are =
    let more = outflow_doubled halves arcs counts node are.1 in
    let first = double_if (arc.tail == node) n in
    let same : (if half.tail == node then n else 0) ≡ (if arc.tail == node then n else 0)
    = ap (λ (side : ℕ). if side == node then n else 0) (same_tail half arc are.0) in
    omega (arith, more, first, same)

-- in units of twice the size
pub halves_of_coarse : (shift : ℕ) (net : Network) → IsNet net → AreHalves (arcs_of (coarse (shift + 1) net)) (arcs_of (coarse shift net))
halves_of_coarse shift net is =
    subst (λ (n : Network). AreHalves (arcs_of n) (arcs_of (coarse shift net))) (sym ((shifts_halve net).1 shift))
    (halves_of_net (coarse shift net) (coarse_nets_are_nets shift net is))
