-- What each part of a search leaves of the ways back to its source.
use Rattle.std.proofs.Common.{◌≡◌, ◌≢◌, ℕ, ◌<◌, ◌≤◌, true, false, List, length, get_or, map, replicate, Option, None, Some, inl, inr, refl, arith, ap, sym, ◌∙◌, subst}
use Rattle.std.specs.Prelude.{slice_set, ℤ, pos, ◌+ℤ◌}
use Rattle.std.specs.List.{Contains}
use Rattle.std.proofs.lemmas.List.Elements.{Contains-get_or}
use Rattle.std.proofs.lemmas.Bool.{cases_eq}
use Rattle.std.proofs.lemmas.Int.{ints}
use Rattle.flow_model.specs.declared.arc.Arc.{Arc}
use Rattle.flow_model.specs.Network.{Network, arcs_of, free_arc}
use Rattle.flow_model.specs.Sound.{IsNet}
use Rattle.flow_network.specs.Rows.{places_of}
use Rattle.residual_model.specs.Residual.{reduced}
use Rattle.reached_sides.specs.declared.mark.Mark.{Mark}
use Rattle.reached_sides.specs.declared.mark.Way.{Way}
use Rattle.reached_sides.specs.declared.mark.Way.TheVariants.{Along, Against}
use Rattle.path_search.specs.Ground.{AreSmall, IsGround, IsSmallPrice, arc_at, count_at, price_at}
use Rattle.path_search.specs.Task.{Task, task_of}
use Rattle.path_search.specs.Search.{mark_at, distance_of, distance_at, is_settled, is_open, settled_count, settled_as, Offers, ComeNearer, IsLooking}
use Rattle.path_search.specs.Ways.{start_of, end_of, IsOpen, cost_of_step, rank_of, height_at, IsStepTo, AreWays, AreWaysFrom, KeepWays, MarksAtMost, mark_by}
use Rattle.path_search.proofs.RowLemmas.{placed, row_only}
use Rattle.path_search.proofs.SearchLemmas.{IsSet, set_is, not_settled}
use Rattle.path_search.proofs.WalkLemmas.{IsBegun, first, begun, open_mark, not_both, never, IsSettledNow}

-- ---- the start

pub ways_begin : (task : Task) (n : ℕ) (marks : List (Option Mark)) → task.source < n
    → AreSmall task.prices → task.source < length task.prices → marks ≡ slice_set (replicate n None) task.source (Some first) → AreWays task marks
ways_begin task n marks within small priced is =
    let begun_now = subst (λ (after : List (Option Mark)). IsBegun task.source after) (sym is) (begun n task.source within) in
    let here = small task.source (pos 0) priced in
    let d = ap distance_of begun_now.here in
    record {
      small = record { least = omega (arith, ints, here.least, d); most = omega (arith, ints, here.most, d) };
      steps = λ side mark at apart. let clash : None ≡ Some mark = sym (begun_now.others side apart) ∙ at in absurd (cc);
      ranked = λ side settled. absurd (never _ (begun_now.none_settled side) settled);
      begun = λ side settled. absurd (never _ (begun_now.none_settled side) settled);
    }

-- ---- a mark that is offered

pub taken_by : (way : Way) (prices : List ℤ) (place distance : ℕ) (arc : Arc) (n to : ℕ) (marks : List (Option Mark)) (frontier : List (ℕ × ℕ))
    (new_marks : List (Option Mark)) (new_frontier : List (ℕ × ℕ)) → IsLooking prices marks frontier distance → IsOpen way arc n
    → distance ≤ to
    → pos to ≡ pos distance +ℤ reduced (price_at prices) (start_of way arc) (end_of way arc) (cost_of_step way arc n)
    → Offers (end_of way arc) (mark_by way place to) marks frontier new_marks new_frontier
    → MarksAtMost way prices place distance arc n marks new_marks
taken_by way prices place distance arc n to marks frontier new_marks new_frontier looking leaves ahead further (inl same) = inl same.1
taken_by way prices place distance arc n to marks frontier new_marks new_frontier looking leaves ahead further (inr new) =
    inr record {
      to = to;
      set = new.1;
      was = not_settled marks frontier distance (end_of way arc) to looking.searching ahead new.0;
      leaves = leaves;
      further = further;
    }

-- ---- ways that are kept

-- a step from a settled side stays one where settled sides keep their marks
step_kept : (task : Task) (old new : List (Option Mark)) (side : ℕ) (mark : Mark)
    → ((other : ℕ) → is_settled (mark_at old other) ≡ true → mark_at new other ≡ mark_at old other)
    → IsStepTo task old side mark → IsStepTo task new side mark
step_kept task old new side mark kept step =
    let start = start_of mark.way (arc_at (arcs_of task.net) mark.arc) in
    let same : mark_at new start ≡ mark_at old start = kept start step.from_settled in
    record {
      inside = step.inside;
      leads = step.leads;
      leaves = step.leaves;
      from_settled = ap is_settled same ∙ step.from_settled;
      from_earlier = λ settled. let before = step.from_earlier settled in let rank = ap rank_of same in omega (arith, before, rank);
      further = step.further ∙ ap (λ (d : ℕ). pos d +ℤ reduced (price_at task.prices) start side
          (cost_of_step mark.way (arc_at (arcs_of task.net) mark.arc) (count_at task.counts mark.arc))) (sym (ap distance_of same));
    }

-- a height stays small where the distance stays
small_kept : (prices : List ℤ) (old new : List (Option Mark)) (side : ℕ) → distance_at new side ≡ distance_at old side
    → IsSmallPrice (height_at prices old side) → IsSmallPrice (height_at prices new side)
small_kept prices old new side same small = record { least = omega (arith, ints, same, small.least); most = omega (arith, ints, same, small.most) }

same_marks : (one two : Mark) (at : Option Mark) → at ≡ Some one → at ≡ Some two → one ≡ two
same_marks one two at is also = let both : Some one ≡ Some two = sym is ∙ also in cc

-- what is known of a look over one arc from a side
pub record IsLook (net : Network) (way : Way) (place side : ℕ) (old : List (Option Mark)) : Type 0 where
  pub inside : place < length (arcs_of net)
  pub starts : start_of way (arc_at (arcs_of net) place) ≡ side
  pub within : end_of way (arc_at (arcs_of net) place) < length old

-- the step that a look found
found_step : (task : Task) (way : Way) (place side distance to : ℕ) (old : List (Option Mark))
    → IsLook task.net way place side old → is_settled (mark_at old side) ≡ true → distance_at old side ≡ distance
    → IsOpen way (arc_at (arcs_of task.net) place) (count_at task.counts place)
    → pos to ≡ pos distance +ℤ reduced (price_at task.prices) (start_of way (arc_at (arcs_of task.net) place)) (end_of way (arc_at (arcs_of task.net) place))
    (cost_of_step way (arc_at (arcs_of task.net) place) (count_at task.counts place))
    → IsStepTo task old (end_of way (arc_at (arcs_of task.net) place)) (mark_by way place to)
found_step task way place side distance to old look settled at leaves further =
    let arc = arc_at (arcs_of task.net) place in
    let from : distance_at old (start_of way arc) ≡ distance = ap (distance_at old) look.starts ∙ at in
    record {
      inside = look.inside;
      leads = refl;
      leaves = leaves;
      from_settled = ap (λ (s : ℕ). is_settled (mark_at old s)) look.starts ∙ settled;
      from_earlier = λ set. absurd (never false refl set);
      further = further ∙ ap (λ (d : ℕ). pos d +ℤ reduced (price_at task.prices) (start_of way arc) (end_of way arc)
          (cost_of_step way arc (count_at task.counts place))) (sym from);
    }

pub look_keeps : (net : Network) (counts : List ℕ) (prices : List ℤ) (way : Way) (place side distance : ℕ) (old new : List (Option Mark))
    → IsLook net way place side old → ComeNearer old new
    → MarksAtMost way prices place distance (arc_at (arcs_of net) place) (count_at counts place) old new
    → KeepWays net counts prices side distance old new
look_keeps net counts prices way place side distance old new look nearer (inl same) excess source from =
    subst (λ (marks : List (Option Mark)). AreWaysFrom (task_of net counts prices excess source) side distance marks) (sym same) from
look_keeps net counts prices way place side distance old new look nearer (inr by) excess source from =
    let arc = arc_at (arcs_of net) place in
    let n = count_at counts place in
    let end = end_of way arc in
    let by_step = mark_by way place by.to in
    let set = subst (λ (marks : List (Option Mark)). IsSet end by_step old marks) (sym by.set) (set_is end by_step old look.within) in
    let task = task_of net counts prices excess source in
    let kept = step_kept task old new in
    let step = found_step task way place side distance by.to old look from.settled from.at by.leaves by.further in
    let count = nearer.count in
    let source_settled = from.ways.begun side from.settled in
    record {
      ways = record {
        small = small_kept prices old new source (ap distance_of (nearer.kept source source_settled)) from.ways.small;
        begun = λ other done. nearer.alike source ∙ source_settled;
        steps = λ other mark at apart.
            elim (cases_eq other end) [
              | inl e ↦
                  let here : mark_at new end ≡ Some mark = subst (λ (s : ℕ). mark_at new s ≡ Some mark) e at in
                  let same = same_marks by_step mark (mark_at new end) set.here here in
                  let told : IsStepTo task new end mark =
                  subst (λ (m : Mark). IsStepTo task new end m) same (kept end by_step nearer.kept step) in
                  subst (λ (s : ℕ). IsStepTo task new s mark) (sym e) told
              | inr other_side ↦ kept other mark nearer.kept (from.ways.steps other mark (sym (set.others other other_side) ∙ at) apart)
            ];
        ranked = λ other done.
            let before = sym (nearer.alike other) ∙ done in
            let rank = ap rank_of (nearer.kept other before) in
            omega (arith, rank, from.ways.ranked other before, count);
      };
      settled = nearer.alike side ∙ from.settled;
      at = ap distance_of (nearer.kept side from.settled) ∙ from.at;
    }

-- the step over an arc of a side's row
pub look_at : (way : Way) (net : Network) (counts : List ℕ) (prices : List ℤ) (side : ℕ) (row : List ℕ) (j : ℕ) (marks : List (Option Mark))
    (frontier : List (ℕ × ℕ)) (distance : ℕ) → IsNet net → IsGround net counts prices
    → row ≡ places_of side (map (start_of way) (arcs_of net)) → j < length row → IsLooking prices marks frontier distance
    → IsLook net way (get_or row j 0) side marks
look_at way net counts prices side row j marks frontier distance is ground same below looking =
    let place = get_or row j 0 in
    let has = subst (λ (list : List ℕ). Contains list place) same (Contains-get_or row j 0 below) in
    let only = row_only (start_of way) (arcs_of net) side place (none way) has in
    let here = placed net counts prices is ground place only.0 in
    record {
      inside = only.0;
      starts = only.1;
      within = let each = looking.each in let within = ends way (arc_at (arcs_of net) place) (length prices) here.starts here.leads in omega (arith, within, each);
    }
  where
    none : (way : Way) → start_of way (free_arc 0 0 0) ≡ 0
    none Along = refl
    none Against = refl

    ends : (way : Way) (arc : Arc) (n : ℕ) → arc.tail < n → arc.head < n → end_of way arc < n
    ends Along arc n tail head = head
    ends Against arc n tail head = tail

pub keep_none : (net : Network) (counts : List ℕ) (prices : List ℤ) (side distance : ℕ) (marks : List (Option Mark))
    → KeepWays net counts prices side distance marks marks
keep_none net counts prices side distance marks excess source from = from

pub keep_on : (net : Network) (counts : List ℕ) (prices : List ℤ) (side distance : ℕ) (start middle last : List (Option Mark))
    → KeepWays net counts prices side distance start middle → KeepWays net counts prices side distance middle last
    → KeepWays net counts prices side distance start last
keep_on net counts prices side distance start middle last one two excess source from = two excess source (one excess source from)

-- ---- a side that is settled

rank_settled : (marks : List (Option Mark)) (side rank : ℕ) (mark : Mark) → mark_at marks side ≡ Some mark
    → settled_as rank (mark_at marks side) ≡ Some (record mark { rank = Some rank })
rank_settled marks side rank mark is = ap (settled_as rank) is

pub ways_from : (task : Task) (marks new_marks : List (Option Mark)) (side rank distance : ℕ)
    → side < length marks → is_open (mark_at marks side) ≡ true → distance_at marks side ≡ distance → rank ≡ settled_count marks
    → new_marks ≡ slice_set marks side (settled_as rank (mark_at marks side)) → IsSettledNow marks new_marks side
    → AreWays task marks → AreWaysFrom task side distance new_marks
ways_from task marks new_marks side rank distance within waits at rank_is is now ways =
    let found = open_mark (mark_at marks side) waits in
    let mark = found.0 in
    let after : Mark = record mark { rank = Some rank } in
    let is_set : new_marks ≡ slice_set marks side (Some after) = is ∙ ap (slice_set marks side) (rank_settled marks side rank mark found.1) in
    let set = subst (λ (list : List (Option Mark)). IsSet side after marks list) (sym is_set) (set_is side after marks within) in
    let apart_from : (other : ℕ) → is_settled (mark_at marks other) ≡ true → other ≢ side =
    λ other settled e. never _ (not_both (mark_at marks side) waits) (subst (λ (s : ℕ). is_settled (mark_at marks s) ≡ true) e settled) in
    let same : (other : ℕ) → is_settled (mark_at marks other) ≡ true → mark_at new_marks other ≡ mark_at marks other =
    λ other settled. now.others other (apart_from other settled) in
    let kept = step_kept task marks new_marks in
    let count = now.count in
    record {
      ways = record {
        small = small_kept task.prices marks new_marks task.source (now.distances task.source) ways.small;
        begun = λ other done.
            elim (cases_eq side task.source) [
              | inl e ↦ subst (λ (s : ℕ). is_settled (mark_at new_marks s) ≡ true) e now.here
              | inr apart ↦
                  let first = ways.begun _ (ways.steps side mark found.1 apart).from_settled in
                  ap is_settled (same task.source first) ∙ first
            ];
        steps = λ other known here apart.
            elim (cases_eq other side) [
              | inl e ↦
                  let not_source : side ≢ task.source = subst (λ (s : ℕ). s ≢ task.source) e apart in
                  let before = kept side mark same (ways.steps side mark found.1 not_source) in
                  let old_start = ways.steps side mark found.1 not_source in
                  let low = ways.ranked _ old_start.from_settled in
                  let rank_same = ap rank_of (same _ old_start.from_settled) in
                  let told : IsStepTo task new_marks side after = record {
                    inside = before.inside;
                    leads = before.leads;
                    leaves = before.leaves;
                    from_settled = before.from_settled;
                    from_earlier = λ done. omega (arith, low, rank_same, rank_is);
                    further = before.further;
                  } in
                  let at_side : mark_at new_marks side ≡ Some known = subst (λ (s : ℕ). mark_at new_marks s ≡ Some known) e here in
                  let is_after = same_marks after known (mark_at new_marks side) set.here at_side in
                  subst (λ (s : ℕ). IsStepTo task new_marks s known) (sym e)
                  (subst (λ (m : Mark). IsStepTo task new_marks side m) is_after told)
              | inr other_side ↦ kept other known same (ways.steps other known (sym (now.others other other_side) ∙ here) apart)
            ];
        ranked = λ other done.
            elim (cases_eq other side) [
              | inl e ↦
                  let here : rank_of (mark_at new_marks other) ≡ rank = ap (λ (s : ℕ). rank_of (mark_at new_marks s)) e ∙ ap rank_of set.here in
                  omega (arith, here, rank_is, count)
              | inr other_side ↦
                  let unchanged = now.others other other_side in
                  let before = ways.ranked other (ap is_settled (sym unchanged) ∙ done) in
                  let rank_same = ap rank_of unchanged in
                  omega (arith, before, rank_same, count)
            ];
      };
      settled = now.here;
      at = now.distances side ∙ at;
    }
