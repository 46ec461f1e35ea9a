-- The way back in the marks of a search: its start, one step more, and its end.
use Rattle.std.proofs.Common.{◌≡◌, ◌≢◌, ℕ, ◌<◌, ◌≤◌, Bool, true, false, List, [], ◌∷◌, ◌++◌, length, Option, None, Some, ◌⊎◌, inl, inr, if◌then◌else◌, refl, arith, ap, sym, ◌∙◌, subst}
use Rattle.std.specs.Prelude.{ℤ, pos, ◌+ℤ◌}
use Rattle.std.specs.List.{All}
use Rattle.std.proofs.lemmas.Bool.{cases_lt}
use Rattle.std.proofs.lemmas.Int.{ints}
use Rattle.std.proofs.lemmas.List.{get_or_past}
use Rattle.std.proofs.lemmas.List.Elements.{All-nil, All-push, All-head, All-tail, All-weaker}
use Rattle.flow_model.specs.declared.arc.Arc.{Arc}
use Rattle.flow_model.specs.Network.{Network, arcs_of}
use Rattle.residual_model.specs.Residual.{reduced, moved}
use Rattle.reached_sides.specs.declared.mark.Mark.{Mark}
use Rattle.reached_sides.specs.declared.mark.Way.{Way}
use Rattle.reached_sides.specs.declared.mark.Way.TheVariants.{Along, Against}
use Rattle.path_search.specs.Ground.{arc_at, count_at, price_at}
use Rattle.path_search.specs.Task.{Task, task_of}
use Rattle.path_search.specs.Search.{mark_at, distance_of, distance_at, is_open, is_settled, settled_count}
use Rattle.path_search.specs.Ways.{start_of, end_of, IsOpen, cost_of_step, rank_of, HasWays}
use Rattle.path_search.specs.declared.step.Step.{Step}
use Rattle.path_search.specs.Path.{step_start, step_end, LeadBack, AreApart, IsOpenStep, IsTight}
use Rattle.path_search.specs.Trace.{IsTold, IsTraced}

-- a side's rank, and for a side that is not settled more than all ranks
abbrev pub level_of : ℕ → Option Mark → ℕ
level_of count at = if is_settled at then rank_of at else count

abbrev pub level_at : List (Option Mark) → ℕ → ℕ
level_at marks side = level_of (settled_count marks) (mark_at marks side)

-- a step starts no lower than a side, and leads to a higher one
abbrev pub IsLater : List Arc → List (Option Mark) → ℕ → Step → Type 0
IsLater arcs marks current step =
    (level_at marks current ≤ level_at marks (step_start arcs step)) × (level_at marks current < level_at marks (step_end arcs step))

-- the steps from a side on
pub record IsTracing (arcs : List Arc) (marks : List (Option Mark)) (source side current : ℕ) (steps : List Step) : Type 0 where
  pub leads : LeadBack arcs current side steps
  pub apart : AreApart steps
  pub told : All (IsTold arcs marks source side) steps
  pub later : All (IsLater arcs marks current) steps
  pub known : (current ≡ side) ⊎ (is_settled (mark_at marks current) ≡ true)

-- ---- the start

pub trace_begins : (arcs : List Arc) (marks : List (Option Mark)) (source side : ℕ) (steps : List Step) → steps ≡ []
    → IsTracing arcs marks source side side steps
trace_begins arcs marks source side steps none =
    let none_yet : IsTracing arcs marks source side side [] = record {
      leads = refl;
      apart = tt;
      told = All-nil (IsTold arcs marks source side);
      later = All-nil (IsLater arcs marks side);
      known = inl refl;
    } in
    subst (λ (list : List Step). IsTracing arcs marks source side side list) (sym none) none_yet

-- ---- one step more

pub marked : (marks : List (Option Mark)) (side current : ℕ) → is_open (mark_at marks side) ≡ true
    → ((current ≡ side) ⊎ (is_settled (mark_at marks current) ≡ true)) → (mark : Mark) × (mark_at marks current ≡ Some mark)
marked marks side current waits (inl e) = by_open (mark_at marks current) (ap (λ (s : ℕ). is_open (mark_at marks s)) e ∙ waits)
  where
    by_open : (at : Option Mark) → is_open at ≡ true → (mark : Mark) × (at ≡ Some mark)
    by_open None waits = absurd (cc)
    by_open (Some mark) waits = (mark, refl)
marked marks side current waits (inr settled) = by_settled (mark_at marks current) settled
  where
    by_settled : (at : Option Mark) → is_settled at ≡ true → (mark : Mark) × (at ≡ Some mark)
    by_settled None settled = absurd (cc)
    by_settled (Some mark) settled = (mark, refl)

pub marked_inside : (marks : List (Option Mark)) (side : ℕ) (mark : Mark) → mark_at marks side ≡ Some mark → side < length marks
marked_inside marks side mark at =
    elim (cases_lt side (length marks)) [
      | inl inside ↦ inside
      | inr past ↦ let clash : None ≡ Some mark = sym (get_or_past marks side None past) ∙ at in absurd (cc)
    ]

lead_more : (arcs : List Arc) (current side : ℕ) (steps : List Step) (step : Step) → LeadBack arcs current side steps → step_end arcs step ≡ current
    → LeadBack arcs (step_start arcs step) side (steps ++ step ∷ [])
lead_more arcs current side [] step here ends = (ends ∙ sym here, refl)
lead_more arcs current side (t ∷ steps) step here ends = (here.0, lead_more arcs current (step_start arcs t) steps step here.1 ends)

apart_more : (steps : List Step) (step : Step) → AreApart steps → All (λ (other : Step). step.arc ≢ other.arc) steps → AreApart (steps ++ step ∷ [])
apart_more [] step apart new = (All-nil (λ (other : Step). other.arc ≢ step.arc), tt)
apart_more (t ∷ steps) step apart new = (
  All-push (λ (other : Step). other.arc ≢ t.arc) steps step apart.0 (All-head (λ (other : Step). step.arc ≢ other.arc) t steps new),
  apart_more steps step apart.1 (All-tail (λ (other : Step). step.arc ≢ other.arc) t steps new),
)

-- a step that starts lower takes another arc than those of later steps
clash : (v w : Way) (arc : Arc) (level : ℕ → ℕ) (current : ℕ) → current ≤ level (start_of w arc) → current < level (end_of w arc)
    → level (start_of v arc) < current → ⊥
clash Along Along arc level current start ends low = absurd (omega (arith, start, low))
clash Along Against arc level current start ends low = absurd (omega (arith, ends, low))
clash Against Along arc level current start ends low = absurd (omega (arith, ends, low))
clash Against Against arc level current start ends low = absurd (omega (arith, start, low))

other_arc : (arcs : List Arc) (marks : List (Option Mark)) (current : ℕ) (step : Step) → level_at marks (step_start arcs step) < level_at marks current
    → (other : Step) → IsLater arcs marks current other → step.arc ≢ other.arc
other_arc arcs marks current step low other later same =
    let low_there : level_at marks (start_of step.way (arc_at arcs other.arc)) < level_at marks current =
    subst (λ (p : ℕ). level_at marks (start_of step.way (arc_at arcs p)) < level_at marks current) same low in
    clash step.way other.way (arc_at arcs other.arc) (level_at marks) (level_at marks current) later.0 later.1 low_there

lower_level : (b : Bool) (rank count low : ℕ) → (b ≡ true → low < rank) → low < count → low < (if b then rank else count)
lower_level true rank count low earlier below = earlier refl
lower_level false rank count low earlier below = below

-- what is known of the step that a mark tells
record IsNextStep (net : Network) (marks : List (Option Mark)) (current : ℕ) (step : Step) : Type 0 where
  pub inside : step.arc < length (arcs_of net)
  pub leads : step_end (arcs_of net) step ≡ current
  pub settled : is_settled (mark_at marks (step_start (arcs_of net) step)) ≡ true
  pub lower : level_at marks (step_start (arcs_of net) step) < level_at marks current

next_step : (task : Task) (side current : ℕ) (marks : List (Option Mark)) (mark : Mark)
    → HasWays task marks side → mark_at marks current ≡ Some mark → current ≢ task.source
    → IsNextStep task.net marks current (record { arc = mark.arc; way = mark.way })
next_step task side current marks mark has at apart =
    let step = has.ways.steps current mark at apart in
    let start = start_of mark.way (arc_at (arcs_of task.net) mark.arc) in
    let level : level_at marks start ≡ rank_of (mark_at marks start) = rw step.from_settled refl in
    let below = has.ways.ranked start step.from_settled in
    let here : level_at marks current ≡ level_of (settled_count marks) (Some mark) = ap (level_of (settled_count marks)) at in
    let lower = lower_level (is_settled (Some mark)) (rank_of (Some mark)) (settled_count marks) (rank_of (mark_at marks start)) step.from_earlier below in
    record {
      inside = step.inside;
      leads = step.leads;
      settled = step.from_settled;
      lower = omega (arith, level, here, lower);
    }

pub traced_more : (task : Task) (side current : ℕ) (marks : List (Option Mark)) (steps : List Step)
    (mark : Mark) (step : Step) → HasWays task marks side → mark_at marks current ≡ Some mark → current ≢ task.source
    → step ≡ record { arc = mark.arc; way = mark.way }
    → IsTracing (arcs_of task.net) marks task.source side current steps
    → IsTracing (arcs_of task.net) marks task.source side (step_start (arcs_of task.net) step) (steps ++ step ∷ [])
traced_more task side current marks steps mark step has at apart told so_far =
    let arcs = arcs_of task.net in
    let next = subst (λ (s : Step). IsNextStep task.net marks current s) (sym told) (next_step task side current marks mark has at apart) in
    let start = step_start arcs step in
    let low = next.lower in
    let ends : mark_at marks (step_end arcs step) ≡ mark_at marks current = ap (mark_at marks) next.leads in
    let top : level_at marks (step_end arcs step) ≡ level_at marks current = ap (level_at marks) next.leads in
    let new_told : IsTold arcs marks task.source side step = record {
      mark = mark;
      at = ends ∙ at;
      same_arc = ap (λ (s : Step). s.arc) told;
      same_way = ap (λ (s : Step). s.way) told;
      apart = λ e. apart (sym next.leads ∙ e);
      known = elim so_far.known [
        | inl e ↦ inl (next.leads ∙ e)
        | inr settled ↦ inr (ap is_settled ends ∙ settled)
      ];
    } in
    record {
      leads = lead_more arcs current side steps step so_far.leads next.leads;
      apart = apart_more steps step so_far.apart
          (All-weaker (IsLater arcs marks current) (λ (other : Step). step.arc ≢ other.arc) (other_arc arcs marks current step low) steps so_far.later);
      told = All-push (IsTold arcs marks task.source side) steps step so_far.told new_told;
      later = All-push (IsLater arcs marks start) steps step
          (All-weaker (IsLater arcs marks current) (IsLater arcs marks start)
          (λ other later. (omega (arith, low, later.0), omega (arith, low, later.1))) steps so_far.later)
          (omega arith, omega (arith, low, top));
      known = inr next.settled;
    }

pub step_inside : (task : Task) (side current : ℕ) (marks : List (Option Mark)) (mark : Mark) (step : Step)
    → HasWays task marks side → mark_at marks current ≡ Some mark → current ≢ task.source
    → step ≡ record { arc = mark.arc; way = mark.way }
    → (step.arc < length (arcs_of task.net)) × (level_at marks (step_start (arcs_of task.net) step) < level_at marks current)
step_inside task side current marks mark step has at apart told =
    let next = subst (λ (s : Step). IsNextStep task.net marks current s) (sym told) (next_step task side current marks mark has at apart) in
    (next.inside, next.lower)

-- ---- the end

-- a step that a mark tells is open, and tight by the prices that the distances move
open_and_tight : (task : Task) (side : ℕ) (marks : List (Option Mark)) (step : Step)
    → HasWays task marks side → IsTold (arcs_of task.net) marks task.source side step
    → IsOpenStep (arcs_of task.net) task.counts step
    × IsTight (arcs_of task.net) task.counts (moved (price_at task.prices) (distance_at marks) (distance_at marks side)) step
open_and_tight task side marks step has told =
    let arcs = arcs_of task.net in
    let to = step_end arcs step in
    let mark = told.mark in
    let st = has.ways.steps to mark told.at told.apart in
    let Is : ℕ → Way → Type 0 = λ p w.
    (p < length arcs)
    × IsOpen w (arc_at arcs p) (count_at task.counts p)
    × (is_settled (mark_at marks (start_of w (arc_at arcs p))) ≡ true)
    × (pos mark.distance ≡ pos (distance_at marks (start_of w (arc_at arcs p)))
    +ℤ reduced (price_at task.prices) (start_of w (arc_at arcs p)) to (cost_of_step w (arc_at arcs p) (count_at task.counts p))) in
    let there : Is mark.arc mark.way = (st.inside, st.leaves, st.from_settled, st.further) in
    let here : Is step.arc step.way = subst (λ (w : Way). Is step.arc w) (sym told.same_way) (subst (λ (p : ℕ). Is p mark.way) (sym told.same_arc) there) in
    let d_end : distance_at marks to ≡ mark.distance = ap distance_of told.at in
    let near_start = has.behind (step_start arcs step) here.2 in
    let near_end : distance_at marks to ≤ distance_at marks side = elim told.known [
      | inl e ↦ let same = ap (distance_at marks) e in omega (arith, same)
      | inr settled ↦ has.behind to settled
    ] in
    let further = here.3 in (
      record { inside = here.0; leaves = here.1 },
      omega (arith, ints, further, d_end, near_start, near_end),
    )

pub traced_all : (net : Network) (source side current : ℕ) (marks : List (Option Mark)) (steps : List Step) → current ≡ source
    → IsTracing (arcs_of net) marks source side current steps → IsTraced net source marks side steps
traced_all net source side current marks steps ends so_far = record {
  told = so_far.told;
  path = λ counts prices excess has.
      let task = task_of net counts prices excess source in
      let arcs = arcs_of net in
      let price = moved (price_at prices) (distance_at marks) (distance_at marks side) in
      record {
        leads = subst (λ (s : ℕ). LeadBack arcs s side steps) ends so_far.leads;
        apart = so_far.apart;
        leave = All-weaker (IsTold arcs marks source side) (IsOpenStep arcs counts)
            (λ step told. (open_and_tight task side marks step has told).0) steps so_far.told;
        tight = All-weaker (IsTold arcs marks source side) (IsTight arcs counts price)
            (λ step told. (open_and_tight task side marks step has told).1) steps so_far.told;
      };
}
