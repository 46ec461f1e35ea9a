-- Arcs and counts by their places.
use Rattle.std.proofs.Common.{◌≡◌, ℕ, zero, suc, ◌+◌, ◌<◌, ◌==◌, Bool, true, false, List, [], ◌∷◌, length, get_or, map, if◌then◌else◌, refl, arith, sym, ◌∙◌, inl, inr, subst}
use Rattle.std.specs.Prelude.{ℤ}
use Rattle.std.specs.List.{Contains}
use Rattle.std.proofs.lemmas.Bool.{eq-eqb, eqb-true}
use Rattle.std.proofs.lemmas.List.{length-map}
use Rattle.std.proofs.lemmas.List.Elements.{Contains-get_or, Contains-append_cases, Contains-append_left, Contains-append_right}
use Rattle.flow_model.specs.declared.arc.Arc.{Arc}
use Rattle.flow_model.specs.Circulation.{EachArc}
use Rattle.flow_model.specs.Network.{Network, arcs_of, free_arc}
use Rattle.flow_model.specs.Prices.{FitsOn}
use Rattle.flow_model.specs.Sound.{IsNet}
use Rattle.flow_model.proofs.LimitLemmas.{nets_are_limited}
use Rattle.flow_network.specs.Cost.{IsCheap}
use Rattle.flow_network.specs.Rows.{places_from, places_of}
use Rattle.path_search.specs.Ground.{arc_at, count_at, price_at, IsGround}

-- ---- rows

-- a key stands at this place
pub record StandsAt (from key : ℕ) (keys : List ℕ) (place : ℕ) : Type 0 where
  pub at : ℕ
  pub is : place ≡ from + at
  pub within : at < length keys
  pub same : get_or keys at 0 ≡ key

one_has : (b : Bool) (from place : ℕ) → Contains (if b then from ∷ [] else []) place → (b ≡ true) × (from ≡ place)
one_has true from place has = (refl, first has.0 has.1 has.2)
  where
    first : (k : ℕ) → k < 1 → get_or (from ∷ []) k place ≡ place → from ≡ place
    first zero within is = is
    first (suc k) within is = absurd (omega (arith, within))
one_has false from place has = absurd (let within = has.1 in omega (arith, within))

pub stands_at : (from key : ℕ) (keys : List ℕ) (place : ℕ) → Contains (places_from from key keys) place → StandsAt from key keys place
stands_at from key [] place has = absurd (let within = has.1 in omega (arith, within))
stands_at from key (k ∷ keys) place has =
    elim (Contains-append_cases (if k == key then from ∷ [] else []) (places_from (from + 1) key keys) place has) [
      | inl here ↦
          let one = one_has (k == key) from place here in
          record { at = 0; is = omega (arith, one.1); within = omega arith; same = eqb-true k key one.0 }
      | inr there ↦
          let more = stands_at (from + 1) key keys place there in
          record { at = suc more.at; is = let is = more.is in omega (arith, is); within = let within = more.within in omega (arith, within); same = more.same }
    ]

pub has_place : (from key : ℕ) (keys : List ℕ) (at place : ℕ) → place ≡ from + at → at < length keys → get_or keys at 0 ≡ key
    → Contains (places_from from key keys) place
has_place from key [] at place e within same = absurd (omega (arith, within))
has_place from key (k ∷ keys) zero place e within same =
    let first : Contains (if k == key then from ∷ [] else []) place = rw (eq-eqb k key same) (0, omega arith, omega (arith, e)) in
    Contains-append_left _ _ place first
has_place from key (k ∷ keys) (suc at) place e within same =
    Contains-append_right _ _ place (has_place (from + 1) key keys at place (omega (arith, e)) (omega (arith, within)) same)

-- ---- places

pub each_at : (P : Arc → ℕ → Type 0) (arcs : List Arc) (counts : List ℕ) → EachArc P arcs counts → (place : ℕ) → place < length arcs
    → P (arc_at arcs place) (count_at counts place)
each_at P [] counts each place within = absurd (omega (arith, within))
each_at P (arc ∷ arcs) [] each place within = absurd each
each_at P (arc ∷ arcs) (n ∷ counts) each zero within = each.0
each_at P (arc ∷ arcs) (n ∷ counts) each (suc place) within = each_at P arcs counts each.1 place (omega (arith, within))

pub each_by_place : (P : Arc → ℕ → Type 0) (arcs : List Arc) (counts : List ℕ) → length counts ≡ length arcs
    → ((place : ℕ) → place < length arcs → P (arc_at arcs place) (count_at counts place)) → EachArc P arcs counts
each_by_place P [] [] same each = tt
each_by_place P [] (n ∷ counts) same each = absurd (omega (arith, same))
each_by_place P (arc ∷ arcs) [] same each = absurd (omega (arith, same))
each_by_place P (arc ∷ arcs) (n ∷ counts) same each = (
  each 0 (omega arith),
  each_by_place P arcs counts (omega (arith, same)) (λ place within. each (suc place) (omega (arith, within))),
)

-- what is known of the arc and the count at a place
pub record IsPlaced (net : Network) (counts : List ℕ) (prices : List ℤ) (place : ℕ) : Type 0 where
  pub within : place < length (arcs_of net)
  pub counted : place < length counts
  pub cheap : IsCheap (arc_at (arcs_of net) place)
  pub fits : FitsOn (price_at prices) (arc_at (arcs_of net) place) (count_at counts place)
  pub starts : (arc_at (arcs_of net) place).tail < length prices
  pub leads : (arc_at (arcs_of net) place).head < length prices

pub placed : (net : Network) (counts : List ℕ) (prices : List ℤ) → IsNet net → IsGround net counts prices → (place : ℕ)
    → place < length (arcs_of net) → IsPlaced net counts prices place
placed net counts prices is ground place within =
    let limited = (nets_are_limited net is).arcs place (free_arc 0 0 0) within in
    record {
      within = within;
      counted = omega (arith, within, ground.counted);
      cheap = record { cheap_up = limited.cheap_up; cheap_down = limited.cheap_down };
      fits = each_at (FitsOn (price_at prices)) (arcs_of net) counts ground.fit place within;
      starts = let bound = limited.starts in omega (arith, bound, ground.priced);
      leads = let bound = limited.goes in omega (arith, bound, ground.priced);
    }

-- the arcs whose end, a tail or a head, is a key
pub end_at : (end : Arc → ℕ) (arcs : List Arc) (place : ℕ) → end (free_arc 0 0 0) ≡ 0 → get_or (map end arcs) place 0 ≡ end (arc_at arcs place)
end_at end [] place none = sym none
end_at end (arc ∷ arcs) zero none = refl
end_at end (arc ∷ arcs) (suc place) none = end_at end arcs place none

pub row_has : (end : Arc → ℕ) (arcs : List Arc) (side place : ℕ) → end (free_arc 0 0 0) ≡ 0 → place < length arcs → end (arc_at arcs place) ≡ side
    → Contains (places_of side (map end arcs)) place
row_has end arcs side place none within ends =
    let long = length-map arcs end in
    has_place 0 side (map end arcs) place place (omega arith) (omega (arith, within, long)) (end_at end arcs place none ∙ ends)

pub row_only : (end : Arc → ℕ) (arcs : List Arc) (side place : ℕ) → end (free_arc 0 0 0) ≡ 0 → Contains (places_of side (map end arcs)) place
    → (place < length arcs) × (end (arc_at arcs place) ≡ side)
row_only end arcs side place none has =
    let stands = stands_at 0 side (map end arcs) place has in
    let long = length-map arcs end in
    let same : stands.at ≡ place = let is = stands.is in omega (arith, is) in
    let at : end (arc_at arcs stands.at) ≡ side = sym (end_at end arcs stands.at none) ∙ stands.same in (
      (let within = stands.within in omega (arith, within, same, long)),
      subst (λ (p : ℕ). end (arc_at arcs p) ≡ side) same at,
    )

-- a place of a row of arcs
pub row_placed : (end : Arc → ℕ) (net : Network) (counts : List ℕ) (prices : List ℤ) (side : ℕ) (row : List ℕ) (j : ℕ)
    → end (free_arc 0 0 0) ≡ 0 → IsNet net → IsGround net counts prices
    → row ≡ places_of side (map end (arcs_of net)) → j < length row → IsPlaced net counts prices (get_or row j 0)
row_placed end net counts prices side row j none is ground same below =
    let has = subst (λ (list : List ℕ). Contains list (get_or row j 0)) same (Contains-get_or row j 0 below) in
    placed net counts prices is ground (get_or row j 0) (row_only end (arcs_of net) side (get_or row j 0) none has).0
