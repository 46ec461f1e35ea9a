-- What the answers show.
use Rattle.std.proofs.Common.{◌≡◌, ℕ, ◌+◌, ◌-◌, ◌*◌, ◌/◌, ◌%◌, ◌<◌, ◌≤◌, Bool, true, List, [], ◌∷◌, ◌++◌, length, get_or, Option, inl, inr, refl, arith, ap, sym, ◌∙◌, subst}
use Rattle.std.specs.Prelude.{ℤ, pos}
use Rattle.std.proofs.lemmas.Bool.{ne_eqb, cases_eq, cases_lt}
use Rattle.std.proofs.lemmas.Int.{ints}
use Rattle.std.proofs.lemmas.List.{get_or_push, get_or_append_left, get_or_past, length_push}
use Rattle.flow_model.specs.Circulation.{IsCirculation, inflow, outflow}
use Rattle.flow_model.specs.Network.{Network, Counts, arcs_of, loads}
use Rattle.flow_model.specs.Prices.{FitsOn, Fit}
use Rattle.flow_model.specs.Repair.{ConserveWithinBounds, FitCounts}
use Rattle.flow_model.proofs.LawLemmas.{fitting_prices_show_least_counts, a_cut_shows_no_counts}
use Rattle.flow_model.proofs.NetLemmas.{side_of}
use Rattle.residual_model.specs.Laws.{IsClosed}
use Rattle.residual_model.specs.Loads.{own_counts}
use Rattle.residual_model.specs.Residual.{StepsOn}
use Rattle.residual_model.proofs.LoadLemmas.{circulations_are_loads}
use Rattle.residual_model.proofs.CutLemmas.{closed_sides_are_a_cut}
use Rattle.reached_sides.specs.declared.mark.Mark.{Mark}
use Rattle.flow_model.specs.Sides.{at_side}
use Rattle.flow_network.specs.Flow.{counts_of, price_of, holds}
use Rattle.flow_network.specs.declared.flow.Flow.{Flow}
use Rattle.flow_network.specs.declared.flow.Nodes.{Nodes}
use Rattle.flow_network.specs.declared.flow.Prices.{Prices}
use Rattle.path_search.specs.Ground.{arc_at, count_at, price_at, sides_of}
use Rattle.path_search.specs.Search.{is_reached}
use Rattle.path_search.proofs.RowLemmas.{placed, each_at, each_by_place}
use Rattle.flow_balance.specs.Answer.{IsEveryOther, TellPrices, TellsReached}
use Rattle.flow_balance.specs.Solved.{AreLeastByPrices, IsCutOf}
use Rattle.flow_balance.specs.State.{IsDone, IsClosedFrom}
use Rattle.flow_balance.proofs.StateLemmas.{fits_shifted}

-- ---- lists by side

pub every_other_none : {A : Type 0} (at : ℕ → A) (first : ℕ) (list : List A) → list ≡ [] → IsEveryOther at first 0 list
every_other_none at first list none = record {
  each = ap length none;
  told = λ block d below. absurd (omega (arith, below));
}

pub every_other_more : {A : Type 0} (at : ℕ → A) (first blocks : ℕ) (list : List A) (value : A) → value ≡ at (first + 2 * blocks)
    → IsEveryOther at first blocks list → IsEveryOther at first (blocks + 1) (list ++ value ∷ [])
every_other_more at first blocks list value is so_far = record {
  each = let each = so_far.each in let long = length_push list value in omega (arith, each, long);
  told = λ block d below.
      elim (cases_lt block blocks) [
        | inl before ↦ get_or_append_left list (value ∷ []) d block (let each = so_far.each in omega (arith, before, each)) ∙ so_far.told block d before
        | inr last ↦
            let e : blocks ≡ block = omega (arith, below, last) in
            get_or_push list value d block (so_far.each ∙ e) ∙ is ∙ ap (λ (b : ℕ). at (first + 2 * b)) e
      ];
}

in_half : (block : ℕ) → (((1 + 2 * block) % 2) ≡ 1) × (((1 + 2 * block) / 2) ≡ block)
in_half block = (omega arith, omega arith)

out_half : (block : ℕ) → (((2 + 2 * block) % 2) ≡ 0) × (((2 + 2 * block) / 2) ≡ block + 1)
out_half block = (omega arith, omega arith)

pub sides_tell : {A : Type 0} (at_root : A) (ins outs : List A) (at : ℕ → A) (blocks side : ℕ) → IsEveryOther at 1 blocks ins → IsEveryOther at 2 blocks outs
    → at_root ≡ at 0 → side < 2 * blocks + 1 → at_side at_root ins outs side ≡ at side
sides_tell at_root ins outs at blocks side in_sides out_sides at_zero within =
    elim (cases_eq side 0) [
      | inl e ↦ subst (λ (s : ℕ). at_side at_root ins outs s ≡ at s) (sym e) at_zero
      | inr apart ↦
          let found = side_of side apart in
          elim found.1 [
            | inl e ↦
                let half = in_half found.0 in
                let here : at_side at_root ins outs (1 + 2 * found.0) ≡ get_or ins found.0 at_root =
                rw (ne_eqb (1 + 2 * found.0) 0 (λ zero. omega (arith, zero)), half.0, half.1) refl in
                let told = in_sides.told found.0 at_root (omega (arith, within, e)) in
                subst (λ (s : ℕ). at_side at_root ins outs s ≡ at s) (sym e) (here ∙ told)
            | inr e ↦
                let half = out_half found.0 in
                let here : at_side at_root ins outs (2 + 2 * found.0) ≡ get_or outs (found.0 + 1 - 1) at_root =
                rw (ne_eqb (2 + 2 * found.0) 0 (λ zero. omega (arith, zero)), half.0, half.1) refl in
                let back : found.0 + 1 - 1 ≡ found.0 = omega arith in
                let told = out_sides.told found.0 at_root (omega (arith, within, e)) in
                subst (λ (s : ℕ). at_side at_root ins outs s ≡ at s) (sym e) (here ∙ ap (λ (b : ℕ). get_or outs b at_root) back ∙ told)
          ]
    ]

-- ---- least counts

pub least_found : (net : Network) (counts : List ℕ) (prices excess : List ℤ) (flow : Flow) (told : Prices) → IsDone net counts prices excess
    → counts_of flow ≡ own_counts net counts → TellPrices net prices told → AreLeastByPrices net flow told
least_found net counts prices excess flow told done same tell =
    let arcs = arcs_of net in
    let ground = done.state.ground in
    let is = ground.of_a_function in
    let circulation : IsCirculation arcs counts = record {
      within = done.state.within;
      conserve = λ node apart.
          let at = done.state.are_excess node in
          let none = done.balanced node in
          omega (arith, ints, at, none);
    } in
    let own = circulations_are_loads net counts is circulation in
    let shifted : Fit (price_of told) arcs counts = each_by_place (FitsOn (price_of told)) arcs counts ground.counted
    (λ place inside.
    let here = placed net counts prices is ground place inside in
    let tail : (arc_at arcs place).tail < sides_of net = let bound = here.starts in let priced = ground.priced in omega (arith, bound, priced) in
    let head : (arc_at arcs place).head < sides_of net = let bound = here.leads in let priced = ground.priced in omega (arith, bound, priced) in
    fits_shifted (price_at prices) (price_of told) (price_at prices 0) (arc_at arcs place) (count_at counts place)
    (tell.same _ tail) (tell.same _ head) here.fits) in
    let fit : Fit (price_of told) arcs (loads net (own_counts net counts)) = subst (λ (list : List ℕ). Fit (price_of told) arcs list) (sym own.0) shifted in
    let conserve : ConserveWithinBounds net (counts_of flow) = subst (λ (c : Counts). ConserveWithinBounds net c) (sym same) own.1 in
    let fit_flow : FitCounts (price_of told) net (counts_of flow) = subst (λ (c : Counts). FitCounts (price_of told) net c) (sym same) fit in
    record {
      priced = tell.sides;
      least = fitting_prices_show_least_counts net (counts_of flow) (price_of told) conserve fit_flow;
      fit = fit_flow;
    }

-- ---- a cut

pub cut_found : (net : Network) (counts : List ℕ) (prices excess : List ℤ) (marks : List (Option Mark)) (nodes : Nodes)
    → IsClosedFrom net counts prices excess marks → TellsReached net marks nodes → IsCutOf net nodes
cut_found net counts prices excess marks nodes found tell =
    let arcs = arcs_of net in
    let state = found.state in
    let ground = state.ground in
    let is = ground.of_a_function in
    let set : ℕ → Bool = holds nodes in
    let Reached : ℕ → ℕ → ℤ → Type 0 = λ from to cost. is_reached marks from ≡ true → is_reached marks to ≡ true in
    let Held : ℕ → ℕ → ℤ → Type 0 = λ from to cost. set from ≡ true → set to ≡ true in
    let closed : IsClosed set arcs counts = each_by_place (StepsOn Held) arcs counts ground.counted
    (λ place inside.
    let here = placed net counts prices is ground place inside in
    let tail : (arc_at arcs place).tail < sides_of net = let bound = here.starts in let priced = ground.priced in omega (arith, bound, priced) in
    let head : (arc_at arcs place).head < sides_of net = let bound = here.leads in let priced = ground.priced in omega (arith, bound, priced) in
    let steps = each_at (StepsOn Reached) arcs counts found.closed.closed place inside in
    record {
      along = λ below from. tell.same _ head ∙ steps.along below (sym (tell.same _ tail) ∙ from);
      against = λ above from. tell.same _ tail ∙ steps.against above (sym (tell.same _ head) ∙ from);
    }) in
    let enough : (node : ℕ) → set node ≡ true → outflow arcs counts node ≤ inflow arcs counts node = λ node held.
    let at = state.are_excess node in
    elim (cases_lt node (sides_of net)) [
      | inl within ↦
          let least = found.closed.none_lacks node (sym (tell.same node within) ∙ held) in
          omega (arith, ints, at, least)
      | inr past ↦
          let told = state.told in
          let priced = ground.priced in
          let zero = get_or_past excess node (pos 0) (omega (arith, past, told, priced)) in
          omega (arith, ints, at, zero)
    ] in
    let source_within : found.source < sides_of net =
    elim (cases_lt found.source (sides_of net)) [
      | inl within ↦ within
      | inr past ↦
          let told = state.told in
          let priced = ground.priced in
          let zero = get_or_past excess found.source (pos 0) (omega (arith, past, told, priced)) in
          let gathers = found.gathers in
          absurd (omega (arith, ints, zero, gathers))
    ] in
    let held : set found.source ≡ true = tell.same found.source source_within ∙ found.closed.begins in
    let more : outflow arcs counts found.source < inflow arcs counts found.source =
    let at = state.are_excess found.source in let gathers = found.gathers in omega (arith, ints, at, gathers) in
    let cut = closed_sides_are_a_cut set arcs counts state.within closed enough found.source held more in
    record {
      sides = tell.sides;
      cut = cut;
      none = a_cut_shows_no_counts net set cut;
    }
