-- What a push along a way leaves of bounds, prices, excess and counts.
use Rattle.std.proofs.Common.{◌≡◌, ◌≢◌, ℕ, zero, suc, ◌+◌, ◌-◌, ◌<◌, ◌≤◌, ◌==◌, Bool, true, false, List, [], ◌∷◌, length, get_or, drop, if◌then◌else◌, ◌⊎◌, inl, inr, refl, arith, ap, sym, ◌∙◌, subst}
use Rattle.std.specs.Prelude.{slice_set, ℤ, pos, ◌+ℤ◌, ◌-ℤ◌}
use Rattle.std.specs.List.{All, Contains}
use Rattle.std.proofs.lemmas.Bool.{cases_eq}
use Rattle.std.proofs.lemmas.Int.{ints}
use Rattle.std.proofs.lemmas.List.{drop_more, drop_all, get_or-set_same, get_or-set_other, length-set}
use Rattle.std.proofs.lemmas.List.Elements.{All-head, All-tail}
use Rattle.flow_model.specs.declared.arc.Arc.{Arc}
use Rattle.flow_model.specs.Circulation.{EachArc, IsWithin, sum_where}
use Rattle.flow_model.specs.Prices.{FitsOn, Fit}
use Rattle.residual_model.specs.Residual.{excess, reduced}
use Rattle.residual_model.proofs.PushLemmas.{pushes_along_fit, pushes_against_fit}
use Rattle.reached_sides.specs.declared.mark.Way.{Way}
use Rattle.reached_sides.specs.declared.mark.Way.TheVariants.{Along, Against}
use Rattle.path_search.specs.Ground.{arc_at, count_at}
use Rattle.path_search.specs.Ways.{start_of, end_of, cost_of_step}
use Rattle.path_search.proofs.RowLemmas.{each_at}
use Rattle.path_search.specs.declared.step.Step.{Step}
use Rattle.path_search.specs.Path.{step_start, step_end, LeadBack, AreApart, IsOpenStep, IsTight, Takes, StepTakes, count_after, push_once, pushed, StaysSmall, IsPushable}

-- ---- one arc

-- the amount where a test passes
abbrev pub when : Bool → ℕ → ℕ
when b n = if b then n else 0

pub sum_set : (p : Arc → Bool) (arcs : List Arc) (counts : List ℕ) (k n : ℕ) → length counts ≡ length arcs → k < length arcs
    → sum_where p arcs (slice_set counts k n) + when (p (arc_at arcs k)) (count_at counts k) ≡ sum_where p arcs counts + when (p (arc_at arcs k)) n
sum_set p [] counts k n same within = absurd (omega (arith, within))
sum_set p (arc ∷ arcs) [] k n same within = absurd (omega (arith, same))
sum_set p (arc ∷ arcs) (m ∷ counts) zero n same within = omega arith
sum_set p (arc ∷ arcs) (m ∷ counts) (suc k) n same within =
    let more = sum_set p arcs counts k n (omega (arith, same)) (omega (arith, within)) in omega (arith, more)

when_add : (b : Bool) (n amount : ℕ) → when b (n + amount) ≡ when b n + when b amount
when_add true n amount = refl
when_add false n amount = refl

when_sub : (b : Bool) (n amount : ℕ) → amount ≤ n → when b (n - amount) + when b amount ≡ when b n
when_sub true n amount order = omega (arith, order)
when_sub false n amount order = refl

once_excess : (way : Way) (arcs : List Arc) (counts : List ℕ) (place amount node : ℕ) → length counts ≡ length arcs → place < length arcs
    → Takes way (arc_at arcs place) (count_at counts place) amount
    → excess arcs (slice_set counts place (count_after way (count_at counts place) amount)) node
    ≡ (excess arcs counts node +ℤ (pos (when (end_of way (arc_at arcs place) == node) amount) -ℤ pos (when (start_of way (arc_at arcs place) == node) amount)))
once_excess Along arcs counts place amount node same within takes =
    let n = count_at counts place in
    let into = sum_set (λ arc. arc.head == node) arcs counts place (n + amount) same within in
    let out = sum_set (λ arc. arc.tail == node) arcs counts place (n + amount) same within in
    let into_more = when_add ((arc_at arcs place).head == node) n amount in
    let out_more = when_add ((arc_at arcs place).tail == node) n amount in
    omega (arith, ints, into, out, into_more, out_more)
once_excess Against arcs counts place amount node same within takes =
    let n = count_at counts place in
    let enough : amount ≤ n = let bounded = takes.bounded in omega (arith, bounded) in
    let into = sum_set (λ arc. arc.head == node) arcs counts place (n - amount) same within in
    let out = sum_set (λ arc. arc.tail == node) arcs counts place (n - amount) same within in
    let into_less = when_sub ((arc_at arcs place).head == node) n amount enough in
    let out_less = when_sub ((arc_at arcs place).tail == node) n amount enough in
    omega (arith, ints, into, out, into_less, out_less)

pub each_set : (P : Arc → ℕ → Type 0) (arcs : List Arc) (counts : List ℕ) (k n : ℕ) → EachArc P arcs counts → P (arc_at arcs k) n
    → EachArc P arcs (slice_set counts k n)
each_set P [] [] k n each here = tt
each_set P [] (m ∷ counts) k n each here = absurd each
each_set P (arc ∷ arcs) [] k n each here = absurd each
each_set P (arc ∷ arcs) (m ∷ counts) zero n each here = (here, each.1)
each_set P (arc ∷ arcs) (m ∷ counts) (suc k) n each here = (each.0, each_set P arcs counts k n each.1 here)

once_here : (way : Way) (price : ℕ → ℤ) (arc : Arc) (n amount : ℕ) → IsWithin arc n → FitsOn price arc n → 0 < amount → Takes way arc n amount
    → reduced price (start_of way arc) (end_of way arc) (cost_of_step way arc n) ≡ pos 0
    → IsWithin arc (count_after way n amount) × FitsOn price arc (count_after way n amount)
once_here Along price arc n amount within fits some takes tight = pushes_along_fit price arc n amount within fits some takes tight
once_here Against price arc n amount within fits some takes tight = pushes_against_fit price arc n amount within fits some takes tight

-- ---- all steps

-- a step takes an amount
pub record HasRoom (arcs : List Arc) (counts : List ℕ) (amount : ℕ) (step : Step) : Type 0 where
  pub inside : step.arc < length arcs
  pub takes : StepTakes arcs counts amount step

others_same : (counts : List ℕ) (amount : ℕ) (step other : Step) → other.arc ≢ step.arc
    → count_at (push_once amount step counts) other.arc ≡ count_at counts other.arc
others_same counts amount step other apart =
    get_or-set_other counts step.arc other.arc (count_after step.way (count_at counts step.arc) amount) 0 apart

room_kept : (arcs : List Arc) (counts : List ℕ) (amount : ℕ) (step : Step) (steps : List Step) → All (λ (other : Step). other.arc ≢ step.arc) steps
    → All (HasRoom arcs counts amount) steps → All (HasRoom arcs (push_once amount step counts) amount) steps
room_kept arcs counts amount step steps apart rooms k d within =
    let other = get_or steps k d in
    let room = rooms k d within in
    let same = others_same counts amount step other (apart k d within) in
    record {
      inside = room.inside;
      takes = subst (λ (n : ℕ). Takes other.way (arc_at arcs other.arc) n amount) (sym same) room.takes;
    }

tight_kept : (arcs : List Arc) (counts : List ℕ) (price : ℕ → ℤ) (amount : ℕ) (step : Step) (steps : List Step) → All (λ (other : Step). other.arc ≢ step.arc) steps
    → All (IsTight arcs counts price) steps → All (IsTight arcs (push_once amount step counts) price) steps
tight_kept arcs counts price amount step steps apart tight k d within =
    let other = get_or steps k d in
    let same = others_same counts amount step other (apart k d within) in
    subst (λ (n : ℕ). reduced price (step_start arcs other) (step_end arcs other) (cost_of_step other.way (arc_at arcs other.arc) n) ≡ pos 0)
    (sym same) (tight k d within)

once-length : (amount : ℕ) (step : Step) (counts : List ℕ) → length (push_once amount step counts) ≡ length counts
once-length amount step counts = length-set counts step.arc (count_after step.way (count_at counts step.arc) amount)

pub pushed-length : (amount : ℕ) (steps : List Step) (counts : List ℕ) → length (pushed amount steps counts) ≡ length counts
pushed-length amount [] counts = refl
pushed-length amount (step ∷ steps) counts = pushed-length amount steps (push_once amount step counts) ∙ once-length amount step counts

pub pushed_fit : (arcs : List Arc) (counts : List ℕ) (price : ℕ → ℤ) (amount : ℕ) (steps : List Step) → 0 < amount
    → EachArc IsWithin arcs counts → Fit price arcs counts → AreApart steps → All (HasRoom arcs counts amount) steps → All (IsTight arcs counts price) steps
    → EachArc IsWithin arcs (pushed amount steps counts) × Fit price arcs (pushed amount steps counts)
pushed_fit arcs counts price amount [] some within fits apart rooms tight = (within, fits)
pushed_fit arcs counts price amount (step ∷ steps) some within fits apart rooms tight =
    let room = All-head (HasRoom arcs counts amount) step steps rooms in
    let arc = arc_at arcs step.arc in
    let n = count_at counts step.arc in
    let here = once_here step.way price arc n amount (each_at IsWithin arcs counts within step.arc room.inside) (each_at (FitsOn price) arcs counts fits step.arc room.inside)
    some room.takes (All-head (IsTight arcs counts price) step steps tight) in
    pushed_fit arcs (push_once amount step counts) price amount steps some
    (each_set IsWithin arcs counts step.arc (count_after step.way n amount) within here.0)
    (each_set (FitsOn price) arcs counts step.arc (count_after step.way n amount) fits here.1)
    apart.1
    (room_kept arcs counts amount step steps apart.0 (All-tail (HasRoom arcs counts amount) step steps rooms))
    (tight_kept arcs counts price amount step steps apart.0 (All-tail (IsTight arcs counts price) step steps tight))

-- the side at the end gains what the source loses
pub pushed_excess : (arcs : List Arc) (counts : List ℕ) (amount source side : ℕ) (steps : List Step) (node : ℕ) → length counts ≡ length arcs
    → LeadBack arcs source side steps → AreApart steps → All (HasRoom arcs counts amount) steps
    → excess arcs (pushed amount steps counts) node
    ≡ (excess arcs counts node +ℤ (pos (when (side == node) amount) -ℤ pos (when (source == node) amount)))
pushed_excess arcs counts amount source side [] node same leads apart rooms =
    let here = ap (λ (s : ℕ). when (s == node) amount) leads in omega (arith, ints, here)
pushed_excess arcs counts amount source side (step ∷ steps) node same leads apart rooms =
    let room = All-head (HasRoom arcs counts amount) step steps rooms in
    let more = pushed_excess arcs (push_once amount step counts) amount source (step_start arcs step) steps node (once-length amount step counts ∙ same) leads.1 apart.1
    (room_kept arcs counts amount step steps apart.0 (All-tail (HasRoom arcs counts amount) step steps rooms)) in
    let once = once_excess step.way arcs counts step.arc amount node same room.inside room.takes in
    let ends = ap (λ (s : ℕ). when (s == node) amount) leads.0 in
    omega (arith, ints, more, once, ends)

pushed_other : (amount : ℕ) (steps : List Step) (counts : List ℕ) (place : ℕ) → All (λ (other : Step). other.arc ≢ place) steps
    → count_at (pushed amount steps counts) place ≡ count_at counts place
pushed_other amount [] counts place apart = refl
pushed_other amount (step ∷ steps) counts place apart =
    let Other : Step → Type 0 = λ other. other.arc ≢ place in
    let here = All-head Other step steps apart in
    pushed_other amount steps (push_once amount step counts) place (All-tail Other step steps apart)
    ∙ get_or-set_other counts step.arc place (count_after step.way (count_at counts step.arc) amount) 0 (λ e. here (sym e))

-- a push changes a count as one of its steps does, or leaves it
pub pushed_at : (amount : ℕ) (steps : List Step) (counts : List ℕ) (place : ℕ) → AreApart steps → place < length counts
    → ((step : Step) × Contains steps step × (step.arc ≡ place) × (count_at (pushed amount steps counts) place ≡ count_after step.way (count_at counts place) amount))
    ⊎ (count_at (pushed amount steps counts) place ≡ count_at counts place)
pushed_at amount [] counts place apart inside = inr refl
pushed_at amount (step ∷ steps) counts place apart inside =
    elim (cases_eq step.arc place) [
      | inl e ↦
          let others = subst (λ (p : ℕ). All (λ (other : Step). other.arc ≢ p) steps) e apart.0 in
          let later = pushed_other amount steps (push_once amount step counts) place others in
          let n = count_after step.way (count_at counts step.arc) amount in
          let here = get_or-set_same counts step.arc n 0 (omega (arith, e, inside)) in
          let at : count_at (push_once amount step counts) place ≡ count_after step.way (count_at counts place) amount =
          subst (λ (p : ℕ). count_at (push_once amount step counts) p ≡ count_after step.way (count_at counts p) amount) e here in
          inl (step, (0, omega arith, refl), e, later ∙ at)
      | inr other ↦
          let before = get_or-set_other counts step.arc place (count_after step.way (count_at counts step.arc) amount) 0 (λ e. other (sym e)) in
          let long = once-length amount step counts in
          elim (pushed_at amount steps (push_once amount step counts) place apart.1 (omega (arith, long, inside))) [
            | inl found ↦
                let k = found.1.0 in
                inl (found.0, (suc k, let within = found.1.1 in omega (arith, within), found.1.2), found.2, found.3 ∙ ap (λ (n : ℕ). count_after found.0.way n amount) before)
            | inr same ↦ inr (same ∙ before)
          ]
    ]

after_at_most : (way : Way) (n amount : ℕ) → count_after way n amount ≤ n + amount
after_at_most Along n amount = omega arith
after_at_most Against n amount = omega arith

-- no count rises by more than the amount
pub pushed_raised : (arcs : List Arc) (counts : List ℕ) (amount : ℕ) (steps : List Step) (place : ℕ) → length counts ≡ length arcs → AreApart steps
    → All (IsOpenStep arcs counts) steps → count_at (pushed amount steps counts) place ≤ count_at counts place + amount
pushed_raised arcs counts amount steps place same apart leave = by_steps steps counts apart (λ k d within. let open_step = leave k d within in let inside = open_step.inside in omega (arith, inside, same))
  where
    by_steps : (steps : List Step) (counts : List ℕ) → AreApart steps → All (λ (step : Step). step.arc < length counts) steps
        → count_at (pushed amount steps counts) place ≤ count_at counts place + amount
    by_steps [] counts apart inside = omega arith
    by_steps (step ∷ steps) counts apart inside =
        let Inside : Step → Type 0 = λ s. s.arc < length counts in
        let here = All-head Inside step steps inside in
        let long = once-length amount step counts in
        let rest : All (λ (s : Step). s.arc < length (push_once amount step counts)) steps =
        λ k d within. let there = All-tail Inside step steps inside k d within in omega (arith, there, long) in
        elim (cases_eq step.arc place) [
          | inl e ↦
              let unchanged = pushed_other amount steps (push_once amount step counts) step.arc apart.0 in
              let set = get_or-set_same counts step.arc (count_after step.way (count_at counts step.arc) amount) 0 here in
              let most = after_at_most step.way (count_at counts step.arc) amount in
              subst (λ (p : ℕ). count_at (pushed amount (step ∷ steps) counts) p ≤ count_at counts p + amount) e (omega (arith, unchanged, set, most))
          | inr other ↦
              let more = by_steps steps (push_once amount step counts) apart.1 rest in
              let unchanged = get_or-set_other counts step.arc place (count_after step.way (count_at counts step.arc) amount) 0 (λ e. other (sym e)) in
              omega (arith, more, unchanged)
        ]

-- ---- the loop

-- so many steps were pushed over
pub record IsPushing (amount : ℕ) (steps : List Step) (start counts : List ℕ) (i : ℕ) : Type 0 where
  pub rest : pushed amount (drop i steps) counts ≡ pushed amount steps start
  pub can : All (IsPushable counts amount) (drop i steps)
  pub apart : AreApart (drop i steps)

small_kept : (counts : List ℕ) (amount : ℕ) (step : Step) (steps : List Step) → All (λ (other : Step). other.arc ≢ step.arc) steps
    → All (IsPushable counts amount) steps → All (IsPushable (push_once amount step counts) amount) steps
small_kept counts amount step steps apart can k d within =
    let other = get_or steps k d in
    let one = can k d within in
    let same = others_same counts amount step other (apart k d within) in
    let long = once-length amount step counts in
    record {
      inside = let inside = one.inside in omega (arith, inside, long);
      small = subst (λ (n : ℕ). StaysSmall other.way n amount) (sym same) one.small;
    }

pub pushing_here : (amount : ℕ) (steps : List Step) (start counts : List ℕ) (i : ℕ) (d : Step) → i < length steps → IsPushing amount steps start counts i
    → IsPushable counts amount (get_or steps i d)
pushing_here amount steps start counts i d within so_far =
    let can = subst (λ (list : List Step). All (IsPushable counts amount) list) (drop_more steps i d within) so_far.can in
    All-head (IsPushable counts amount) (get_or steps i d) (drop (i + 1) steps) can

pub pushing_more : (amount : ℕ) (steps : List Step) (start counts : List ℕ) (i : ℕ) (d : Step) → i < length steps → IsPushing amount steps start counts i
    → IsPushing amount steps start (push_once amount (get_or steps i d) counts) (i + 1)
pushing_more amount steps start counts i d within so_far =
    let step = get_or steps i d in
    let rest = drop (i + 1) steps in
    let here = drop_more steps i d within in
    let apart = subst (λ (list : List Step). AreApart list) here so_far.apart in
    let can = subst (λ (list : List Step). All (IsPushable counts amount) list) here so_far.can in
    record {
      rest = sym (ap (λ (list : List Step). pushed amount list counts) here) ∙ so_far.rest;
      can = small_kept counts amount step rest apart.0 (All-tail (IsPushable counts amount) step rest can);
      apart = apart.1;
    }

pub pushing_all : (amount : ℕ) (steps : List Step) (start counts : List ℕ) (i : ℕ) → length steps ≤ i → IsPushing amount steps start counts i
    → counts ≡ pushed amount steps start
pushing_all amount steps start counts i past so_far =
    sym (ap (λ (list : List Step). pushed amount list counts) (drop_all i steps past)) ∙ so_far.rest
