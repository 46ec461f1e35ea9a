-- What goes over one arc.
use Rattle.std.proofs.Common.{ℕ, zero, suc, ◌<◌, Bool, List, [], ◌∷◌, length, refl, arith}
use Rattle.std.specs.Prelude.{ℤ}
use Rattle.std.specs.List.{All}
use Rattle.flow_model.specs.Network.{Network, arcs_of}
use Rattle.path_search.specs.Ground.{arc_at, count_at, price_at}
use Rattle.path_search.specs.Tight.{IsTightAlong}
use Rattle.path_search.proofs.RowLemmas.{placed}
use Rattle.reached_sides.specs.declared.mark.Way.TheVariants.{Along}
use Rattle.path_search.specs.declared.step.Step.{Step}
use Rattle.path_search.specs.Path.{IsOpenStep, IsPath, IsTight}
use Rattle.flow_balance.specs.State.{HasMoved, IsAugmented, IsState}
use Rattle.flow_balance.proofs.StateLemmas.{moved_along}

all_one : (P : Step → Type 0) (step : Step) → P step → All P (step ∷ [])
all_one P step is zero d within = is
all_one P step is (suc k) d within = absurd (omega (arith, within))

-- the step along an arc
abbrev pub along : ℕ → Step
along place = record { arc = place; way = Along }

one_step : (net : Network) (counts : List ℕ) (prices : List ℤ) (place : ℕ) → place < length (arcs_of net)
    → IsTightAlong prices (arc_at (arcs_of net) place) (count_at counts place)
    → IsPath (arcs_of net) counts (price_at prices) (arc_at (arcs_of net) place).tail (arc_at (arcs_of net) place).head (along place ∷ [])
one_step net counts prices place inside tight = record {
  leads = (refl, refl);
  apart = (λ k d within. absurd (omega (arith, within)), tt);
  leave = all_one (IsOpenStep (arcs_of net) counts) (along place) (record { inside = inside; leaves = tight.leaves });
  tight = all_one (IsTight (arcs_of net) counts (price_at prices)) (along place) tight.costs;
}

pub given_over : (net : Network) (counts : List ℕ) (prices excess : List ℤ) (place : ℕ) (new_counts : List ℕ) (new_excess : List ℤ) (more : Bool)
    → IsState net counts prices excess → place < length (arcs_of net)
    → IsTightAlong prices (arc_at (arcs_of net) place) (count_at counts place)
    → HasMoved (arcs_of net) counts excess (arc_at (arcs_of net) place).tail (arc_at (arcs_of net) place).head (along place ∷ []) new_counts new_excess more
    → IsAugmented net counts prices excess new_counts prices new_excess
given_over net counts prices excess place new_counts new_excess more state inside tight has =
    let here = placed net counts prices state.ground.of_a_function state.ground place inside in
    let told = state.told in
    moved_along net counts prices excess _ _ (along place ∷ []) new_counts new_excess more state
    (let starts = here.starts in omega (arith, starts, told)) (let leads = here.leads in omega (arith, leads, told))
    (one_step net counts prices place inside tight) has
