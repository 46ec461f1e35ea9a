-- A search that goes on behind a push over steps that take more, where all settled sides are at one distance.
use Rattle.std.proofs.Common.{◌≡◌, ◌≢◌, ℕ, ◌+◌, ◌<◌, true, List, length, Option, Some, ◌⊎◌, inl, inr, refl, arith, ap, sym, ◌∙◌, subst}
use Rattle.std.specs.Prelude.{ℤ, pos, negsuc, ◌+ℤ◌, ◌≤ℤ◌, ◌<ℤ◌}
use Rattle.std.specs.List.{All}
use Rattle.std.proofs.lemmas.Int.{ints}
use Rattle.std.proofs.lemmas.List.Elements.{All-contains}
use Rattle.flow_model.specs.declared.arc.Arc.{Arc}
use Rattle.flow_model.specs.Network.{Network, arcs_of}
use Rattle.flow_model.specs.Prices.{FitsOn}
use Rattle.residual_model.specs.Residual.{StepsOn, reduced}
use Rattle.reached_sides.specs.declared.mark.Mark.{Mark}
use Rattle.reached_sides.specs.declared.mark.Way.{Way}
use Rattle.reached_sides.specs.declared.mark.Way.TheVariants.{Along, Against}
use Rattle.path_search.specs.Ground.{arc_at, count_at, price_at}
use Rattle.path_search.specs.Search.{mark_at, distance_at, is_settled}
use Rattle.path_search.specs.Ways.{AreWays, IsOpen, cost_of_step, end_of, rank_of, start_of}
use Rattle.path_search.proofs.RowLemmas.{each_at, each_by_place}
use Rattle.path_search.specs.declared.step.Step.{Step}
use Rattle.path_search.specs.Path.{AreApart, StepTakes, count_after, pushed, step_end, step_start}
use Rattle.path_search.specs.Trace.{IsTold, IsTraced}
use Rattle.path_search.specs.Task.{Task, task_of}
use Rattle.path_search.specs.Found.{HasComeTo}
use Rattle.path_search.specs.declared.walk.Search.{Search}
use Rattle.path_search.proofs.PathLemmas.{pushed_at}
use Rattle.path_search.proofs.RoomLemmas.{left_alike}
use Rattle.flow_balance.specs.State.{HasMoved, IsAugmented}
use Rattle.flow_balance.proofs.ExcessLemmas.{IsFair, fair_lacks}
use Rattle.flow_balance.proofs.StateLemmas.{IsFound}

not_lacking : (z : ℤ) → (z <ℤ pos 0 → ⊥) → pos 0 ≤ℤ z
not_lacking (pos n) never = omega (arith, ints)
not_lacking (negsuc n) never = absurd (never (omega (arith, ints)))

-- ---- a step of the way

-- where the step that a mark tells starts
told_start : (task : Task) (side : ℕ) (marks : List (Option Mark)) (step : Step)
    → AreWays task marks → IsTold (arcs_of task.net) marks task.source side step
    → (is_settled (mark_at marks (step_start (arcs_of task.net) step)) ≡ true)
    × (is_settled (mark_at marks (step_end (arcs_of task.net) step)) ≡ true
    → rank_of (mark_at marks (step_start (arcs_of task.net) step)) < rank_of (mark_at marks (step_end (arcs_of task.net) step)))
told_start task side marks step ways told =
    let arcs = arcs_of task.net in
    let st = ways.steps (step_end arcs step) told.mark told.at told.apart in
    let Is : ℕ → Way → Type 0 = λ p w.
    (is_settled (mark_at marks (start_of w (arc_at arcs p))) ≡ true)
    × (is_settled (mark_at marks (step_end arcs step)) ≡ true
    → rank_of (mark_at marks (start_of w (arc_at arcs p))) < rank_of (mark_at marks (step_end arcs step))) in
    let earlier : is_settled (mark_at marks (step_end arcs step)) ≡ true
    → rank_of (mark_at marks (start_of told.mark.way (arc_at arcs told.mark.arc))) < rank_of (mark_at marks (step_end arcs step)) =
    λ settled.
    let before = st.from_earlier (sym (ap is_settled told.at) ∙ settled) in
    let same = ap rank_of told.at in omega (arith, before, same) in
    let there : Is told.mark.arc told.mark.way = (st.from_settled, earlier) in
    subst (λ (w : Way). Is step.arc w) (sym told.same_way) (subst (λ (p : ℕ). Is p told.mark.way) (sym told.same_arc) there)

same_or_back : (v w : Way) → (v ≡ w) ⊎ ((arc : Arc) → (start_of v arc ≡ end_of w arc) × (end_of v arc ≡ start_of w arc))
same_or_back Along Along = inl refl
same_or_back Along Against = inr (λ arc. (refl, refl))
same_or_back Against Along = inr (λ arc. (refl, refl))
same_or_back Against Against = inl refl

-- no mark tells the step back over an arc of the way
never_back : (task : Task) (side : ℕ) (marks : List (Option Mark)) (step : Step) (v : ℕ) (mark : Mark)
    → AreWays task marks → IsTold (arcs_of task.net) marks task.source side step
    → mark_at marks v ≡ Some mark → v ≢ task.source → step.arc ≡ mark.arc
    → start_of mark.way (arc_at (arcs_of task.net) mark.arc) ≡ end_of step.way (arc_at (arcs_of task.net) mark.arc)
    → end_of mark.way (arc_at (arcs_of task.net) mark.arc) ≡ start_of step.way (arc_at (arcs_of task.net) mark.arc) → ⊥
never_back task side marks step v mark ways told at apart same starts ends =
    let arcs = arcs_of task.net in
    let st = ways.steps v mark at apart in
    let way = told_start task side marks step ways told in
    let start : step_start arcs step ≡ v =
    ap (λ (p : ℕ). start_of step.way (arc_at arcs p)) same ∙ sym ends ∙ st.leads in
    let end : start_of mark.way (arc_at arcs mark.arc) ≡ step_end arcs step =
    starts ∙ sym (ap (λ (p : ℕ). end_of step.way (arc_at arcs p)) same) in
    let v_settled : is_settled (Some mark) ≡ true =
    sym (ap is_settled at) ∙ sym (ap (λ (s : ℕ). is_settled (mark_at marks s)) start) ∙ way.0 in
    let end_settled : is_settled (mark_at marks (step_end arcs step)) ≡ true =
    sym (ap (λ (s : ℕ). is_settled (mark_at marks s)) end) ∙ st.from_settled in
    let up = way.1 end_settled in
    let down = st.from_earlier v_settled in
    let rank_v : rank_of (mark_at marks (step_start arcs step)) ≡ rank_of (Some mark) =
    ap (λ (s : ℕ). rank_of (mark_at marks s)) start ∙ ap rank_of at in
    let rank_end = ap (λ (s : ℕ). rank_of (mark_at marks s)) end in
    omega (arith, up, down, rank_v, rank_end)

-- what a mark tells is left by the push, at the same cost
kept_step : (task : Task) (side amount : ℕ) (marks : List (Option Mark)) (step : Step) (v : ℕ) (mark : Mark)
    → AreWays task marks → IsTold (arcs_of task.net) marks task.source side step
    → mark_at marks v ≡ Some mark → v ≢ task.source → step.arc ≡ mark.arc → StepTakes (arcs_of task.net) task.counts (amount + 1) step
    → IsOpen mark.way (arc_at (arcs_of task.net) mark.arc) (count_after step.way (count_at task.counts mark.arc) amount)
    × (cost_of_step mark.way (arc_at (arcs_of task.net) mark.arc) (count_after step.way (count_at task.counts mark.arc) amount)
    ≡ cost_of_step mark.way (arc_at (arcs_of task.net) mark.arc) (count_at task.counts mark.arc))
kept_step task side amount marks step v mark ways told at apart same takes =
    let arcs = arcs_of task.net in
    let left = left_alike step.way (arc_at arcs step.arc) (count_at task.counts step.arc) amount takes in
    elim (same_or_back mark.way step.way) [
      | inl alike ↦
          let Is : ℕ → Way → Type 0 = λ p w.
          IsOpen w (arc_at arcs p) (count_after step.way (count_at task.counts p) amount)
          × (cost_of_step w (arc_at arcs p) (count_after step.way (count_at task.counts p) amount) ≡ cost_of_step w (arc_at arcs p) (count_at task.counts p)) in
          subst (λ (w : Way). Is mark.arc w) (sym alike) (subst (λ (p : ℕ). Is p step.way) same left)
      | inr back ↦
          let turned = back (arc_at arcs mark.arc) in
          absurd (never_back task side marks step v mark ways told at apart same turned.0 turned.1)
    ]

-- ---- all that the search knows

ways_kept : (task : Task) (side amount : ℕ) (marks : List (Option Mark)) (steps : List Step) (excess : List ℤ)
    → length task.counts ≡ length (arcs_of task.net) → AreWays task marks → IsTraced task.net task.source marks side steps
    → AreApart steps → All (StepTakes (arcs_of task.net) task.counts (amount + 1)) steps
    → AreWays (task_of task.net (pushed amount steps task.counts) task.prices excess task.source) marks
ways_kept task side amount marks steps excess counted ways traced apart_steps takes = record {
  small = ways.small;
  begun = ways.begun;
  steps = λ v mark at apart.
      let arcs = arcs_of task.net in
      let st = ways.steps v mark at apart in
      let inside = st.inside in
      let arc = arc_at arcs mark.arc in
      let start = start_of mark.way arc in
      let Further : ℤ → Type 0 = λ cost. pos mark.distance ≡ (pos (distance_at marks start) +ℤ reduced (price_at task.prices) start v cost) in
      let is : IsOpen mark.way arc (count_at (pushed amount steps task.counts) mark.arc) × Further (cost_of_step mark.way arc (count_at (pushed amount steps task.counts) mark.arc)) =
      elim (pushed_at amount steps task.counts mark.arc apart_steps (omega (arith, inside, counted))) [
        | inl found ↦
            let step = found.0 in
            let told = All-contains (IsTold arcs marks task.source side) steps step traced.told found.1 in
            let take = All-contains (StepTakes arcs task.counts (amount + 1)) steps step takes found.1 in
            let kept = kept_step task side amount marks step v mark ways told at apart found.2 take in
            subst (λ (n : ℕ). IsOpen mark.way arc n × Further (cost_of_step mark.way arc n)) (sym found.3)
            (kept.0, subst Further (sym kept.1) st.further)
        | inr same ↦
            subst (λ (n : ℕ). IsOpen mark.way arc n × Further (cost_of_step mark.way arc n)) (sym same) (st.leaves, st.further)
      ] in
      record {
        inside = st.inside;
        leads = st.leads;
        leaves = is.0;
        from_settled = st.from_settled;
        from_earlier = st.from_earlier;
        further = is.1;
      };
  ranked = ways.ranked;
}

by_way : (way : Way) (arc : Arc) (distance : ℕ → ℕ) (here : ℕ) → distance (start_of way arc) ≡ here → distance (end_of way arc) ≡ here
    → (distance arc.tail ≡ here) × (distance arc.head ≡ here)
by_way Along arc distance here start end = (start, end)
by_way Against arc distance here start end = (end, start)

-- both ends of a step of the way are as far as the side, as all that is settled
ends_level : (task : Task) (side : ℕ) (marks : List (Option Mark)) (step : Step)
    → AreWays task marks → IsTold (arcs_of task.net) marks task.source side step
    → ((other : ℕ) → is_settled (mark_at marks other) ≡ true → distance_at marks other ≡ distance_at marks side)
    → (distance_at marks (arc_at (arcs_of task.net) step.arc).tail ≡ distance_at marks side)
    × (distance_at marks (arc_at (arcs_of task.net) step.arc).head ≡ distance_at marks side)
ends_level task side marks step ways told level =
    let arcs = arcs_of task.net in
    let way = told_start task side marks step ways told in
    let end : distance_at marks (step_end arcs step) ≡ distance_at marks side = elim told.known [
      | inl e ↦ ap (distance_at marks) e
      | inr settled ↦ level (step_end arcs step) settled
    ] in
    by_way step.way (arc_at arcs step.arc) (distance_at marks) (distance_at marks side) (level (step_start arcs step) way.0) end

pub goes_on : (net : Network) (counts : List ℕ) (prices excess : List ℤ) (source side : ℕ) (held : Search) (steps : List Step)
    (new_counts : List ℕ) (new_excess : List ℤ)
    → IsFound net counts prices excess source side held.marks → source < length excess
    → HasComeTo (task_of net counts prices excess source) held side (distance_at held.marks side)
    → ((other : ℕ) → is_settled (mark_at held.marks other) ≡ true → distance_at held.marks other ≡ distance_at held.marks side)
    → IsTraced net source held.marks side steps → HasMoved (arcs_of net) counts excess source side steps new_counts new_excess true
    → IsAugmented net counts prices excess new_counts prices new_excess
    → HasComeTo (task_of net new_counts prices new_excess source) held side (distance_at held.marks side)
goes_on net counts prices excess source side held steps new_counts new_excess found source_inside come level traced has now =
    let arcs = arcs_of net in
    let amount = has.amount in
    let path = traced.path counts prices excess found.ways in
    let counted = found.state.ground.counted in
    let takes = has.take_more refl in
    let side_inside : side < length excess = let inside = found.reached.inside in let told = found.state.told in omega (arith, inside, told) in
    let fair : IsFair excess source side amount =
    record { starts = source_inside; leads = side_inside; some = has.some; has = has.has; lacks = has.lacks } in
    let Led : ℕ → ℕ → ℤ → Type 0 = λ from to cost. is_settled (mark_at held.marks from) ≡ true
    → pos (distance_at held.marks to) ≤ℤ (pos (distance_at held.marks from) +ℤ reduced (price_at prices) from to cost) in
    let led : (place : ℕ) → place < length arcs → StepsOn Led (arc_at arcs place) (count_at new_counts place) = λ place inside.
    elim (pushed_at amount steps counts place path.apart (omega (arith, inside, counted))) [
      | inl there ↦
          let step = there.0 in
          let told = All-contains (IsTold arcs held.marks source side) steps step traced.told there.1 in
          let at_step = ends_level (task_of net counts prices excess source) side held.marks step come.settled.ways told level in
          let ends = subst (λ (p : ℕ). (distance_at held.marks (arc_at arcs p).tail ≡ distance_at held.marks side) × (distance_at held.marks (arc_at arcs p).head ≡ distance_at held.marks side)) there.2 at_step in
          let fits = each_at (FitsOn (price_at prices)) arcs new_counts now.given.state.ground.fit place inside in
          record {
            along = λ below settled. let fit = fits.more below in omega (arith, ints, fit, ends.0, ends.1);
            against = λ above settled. let fit = fits.less above in omega (arith, ints, fit, ends.0, ends.1);
          }
      | inr same ↦
          subst (λ (n : ℕ). StepsOn Led (arc_at arcs place) n) (sym (ap (λ (list : List ℕ). count_at list place) has.counts_are ∙ same))
          (each_at (StepsOn Led) arcs counts come.settled.led place inside)
    ] in
    record {
      settled = record {
        each = come.settled.each;
        begins = come.settled.begins;
        led = each_by_place (StepsOn Led) arcs new_counts now.given.state.ground.counted led;
        none_lacks = λ other settled. not_lacking (price_at new_excess other) (λ lacks.
            let lacked = fair_lacks excess source side amount fair other
            (subst (λ (list : List ℤ). price_at list other <ℤ pos 0) has.excess_is lacks) in
            let enough = come.settled.none_lacks other settled in
            omega (arith, ints, enough, lacked));
        ways = subst (λ (list : List ℕ). AreWays (task_of net list prices new_excess source) held.marks) (sym has.counts_are)
            (ways_kept (task_of net counts prices excess source) side amount held.marks steps new_excess counted come.settled.ways traced path.apart takes);
      };
      listed = come.listed;
      next = come.next;
    }
