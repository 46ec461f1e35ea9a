-- What an augmentation leaves true.
use Rattle.std.proofs.Common.{◌≡◌, ℕ, ◌+◌, ◌^◌, ◌<◌, ◌≤◌, Bool, List, length, replicate, Option, None, Some, ◌⊎◌, inl, inr, refl, arith, ap, sym, ◌∙◌, subst}
use Rattle.std.specs.Prelude.{ℤ, pos, ◌-ℤ◌, ◌≤ℤ◌, ◌<ℤ◌, slice_index_or}
use Rattle.std.specs.List.{All}
use Rattle.std.proofs.lemmas.Bool.{cases_lt}
use Rattle.std.proofs.lemmas.Int.{ints}
use Rattle.std.proofs.lemmas.List.{get_or-replicate, get_or_past, get_or_default, length-replicate}
use Rattle.std.proofs.lemmas.List.Elements.{All-replicate}
use Rattle.flow_model.specs.declared.arc.Arc.{Arc}
use Rattle.flow_model.specs.Circulation.{IsWithin}
use Rattle.flow_model.specs.Network.{Network, arcs_of, free_arc}
use Rattle.flow_model.specs.Prices.{FitsOn, Fit}
use Rattle.flow_model.proofs.ArcLemmas.{each_from}
use Rattle.flow_model.proofs.LimitLemmas.{nets_are_limited}
use Rattle.residual_model.specs.Residual.{moved}
use Rattle.residual_model.proofs.PushLemmas.{starting_counts_fit}
use Rattle.residual_model.proofs.StepLemmas.{moved_prices_fit}
use Rattle.reached_sides.specs.declared.mark.Mark.{Mark}
use Rattle.path_search.specs.Ground.{IsSmallPrice, AreSmall, arc_at, count_at, price_at, sides_of}
use Rattle.path_search.specs.Search.{distance_of, distance_at, settled_count}
use Rattle.path_search.specs.Ways.{HasWays}
use Rattle.path_search.specs.Task.{task_of}
use Rattle.path_search.specs.Found.{HasEnded, HasReached}
use Rattle.path_search.specs.declared.walk.Search.{Search}
use Rattle.path_search.proofs.CostLemmas.{few_sides, small_at, way_cost, way_near}
use Rattle.path_search.proofs.RowLemmas.{each_by_place}
use Rattle.path_search.proofs.SearchLemmas.{few_settled}
use Rattle.path_search.specs.declared.step.Step.{Step}
use Rattle.path_search.specs.Path.{IsPath, pushed, step_start, step_end}
use Rattle.path_search.proofs.PathLemmas.{HasRoom, pushed-length, pushed_fit, pushed_excess, pushed_raised}
use Rattle.path_search.proofs.TraceLemmas.{marked}
use Rattle.flow_balance.specs.Excess.{surplus, transferred}
use Rattle.flow_balance.specs.declared.balancing.ExcessSides.{ExcessSides}
use Rattle.flow_balance.specs.declared.balancing.ExcessSides.TheVariants.{All as Every}
use Rattle.flow_balance.specs.State.{AreLater, AreSpent, HasMoved, IsAugmented, IsClosedFrom, IsDone, IsGiven, IsLowPrice, IsNearLack, IsStart, IsState}
use Rattle.flow_balance.proofs.ExcessLemmas.{IsFair, transferred_at, transferred-length, fair_sums, fair_kept, fair_lacks, none_lacks}
use Rattle.flow_balance.proofs.StartLemmas.{starting_small}

-- ---- prices

-- prices that differ by the same amount everywhere fit alike
pub fits_shifted : (price other : ℕ → ℤ) (shift : ℤ) (arc : Arc) (n : ℕ) → other arc.tail ≡ price arc.tail -ℤ shift → other arc.head ≡ price arc.head -ℤ shift
    → FitsOn price arc n → FitsOn other arc n
fits_shifted price other shift arc n tail head fits = record {
  more = λ below. let fit = fits.more below in omega (arith, ints, fit, tail, head);
  less = λ above. let fit = fits.less above in omega (arith, ints, fit, tail, head);
}

not_shifted : (z other : ℤ) → other ≡ z → other ≡ z -ℤ pos 0
not_shifted z other same = omega (arith, ints, same)

fit_same : (price other : ℕ → ℤ) (arcs : List Arc) (counts : List ℕ) → ((node : ℕ) → other node ≡ price node) → Fit price arcs counts → Fit other arcs counts
fit_same price other arcs counts same fit =
    each_from (FitsOn price) (FitsOn other)
    (λ arc n fits. fits_shifted price other (pos 0) arc n (not_shifted _ _ (same arc.tail)) (not_shifted _ _ (same arc.head)) fits) arcs counts fit

-- ---- the start

-- no side starts with an excess that leaves its type
pub start_few : (net : Network) (counts : List ℕ) (excess : List ℤ) → IsStart net counts excess → surplus excess < 2 ^ 63
start_few net counts excess start =
    let limits = nets_are_limited net start.of_a_function in
    let few_arcs = limits.few in
    let few = start.few (2 ^ 44) (λ place inside.
    let small = starting_small (length net.blocks) (arc_at (arcs_of net) place) (limits.arcs place (free_arc 0 0 0) inside) in
    omega (arith, small)) in
    omega (arith, few_arcs, few)

pub started : (net : Network) (counts : List ℕ) (prices excess : List ℤ) → IsStart net counts excess
    → prices ≡ replicate (sides_of net) (pos 0) → IsState net counts prices excess
started net counts prices excess start zeros =
    let is = start.of_a_function in
    let arcs = arcs_of net in
    let limits = (nets_are_limited net is).arcs in
    let none : (side : ℕ) → price_at prices side ≡ pos 0 = λ side.
    ap (λ (list : List ℤ). price_at list side) zeros ∙ zero_at (sides_of net) side in
    let few = start_few net counts excess start in
    let flat : ℕ → ℤ = λ node. pos 0 in
    let each : (place : ℕ) → place < length arcs → IsWithin (arc_at arcs place) (count_at counts place) × FitsOn flat (arc_at arcs place) (count_at counts place) =
    λ place inside.
    let limited = limits place (free_arc 0 0 0) inside in
    subst (λ (n : ℕ). IsWithin (arc_at arcs place) n × FitsOn flat (arc_at arcs place) n) (sym (start.starts place inside))
    (starting_counts_fit (arc_at arcs place) limited.ordered) in
    record {
      ground = record {
        of_a_function = is;
        counted = start.counted;
        priced = ap length zeros ∙ length-replicate (sides_of net) (pos 0);
        small = subst (λ (list : List ℤ). AreSmall list) (sym zeros)
            (All-replicate IsSmallPrice (sides_of net) (pos 0) (record { least = omega (arith, ints); most = omega (arith, ints) }));
        fit = fit_same flat (price_at prices) arcs counts none (each_by_place (FitsOn flat) arcs counts start.counted (λ place inside. (each place inside).1));
      };
      within = each_by_place IsWithin arcs counts start.counted (λ place inside. (each place inside).0);
      told = start.told ∙ sym (ap length zeros ∙ length-replicate (sides_of net) (pos 0));
      are_excess = start.are_excess;
      even = start.even;
      bounded = λ place.
          elim (cases_lt place (length arcs)) [
            | inl inside ↦
                let small = starting_small (length net.blocks) (arc_at arcs place) (limits place (free_arc 0 0 0) inside) in
                let is_so = start.starts place inside in
                omega (arith, small, is_so, few)
            | inr past ↦
                let long = start.counted in
                let zero = get_or_past counts place 0 (omega (arith, past, long)) in
                omega (arith, zero, few)
          ];
      low = λ side lacks. let zero = none side in record { least = omega (arith, ints, zero); most = omega (arith, ints, zero) };
    }
  where
    zero_at : (n side : ℕ) → price_at (replicate n (pos 0)) side ≡ pos 0
    zero_at n side =
        elim (cases_lt side n) [
          | inl within ↦ get_or-replicate n side (pos 0) (pos 0) within
          | inr past ↦ get_or_past (replicate n (pos 0)) side (pos 0) (let long = length-replicate n (pos 0) in omega (arith, long, past))
        ]

-- ---- moved prices

-- what is known when a search has come to a side
pub record IsFound (net : Network) (counts : List ℕ) (prices excess : List ℤ) (source side : ℕ) (marks : List (Option Mark)) : Type 0 where
  pub state : IsState net counts prices excess
  pub reached : HasReached (task_of net counts prices excess source) marks side
  pub ways : HasWays (task_of net counts prices excess source) marks side

pub found_at : (net : Network) (counts : List ℕ) (prices excess : List ℤ) (source side : ℕ) (held : Search)
    → IsState net counts prices excess → HasEnded (task_of net counts prices excess source) held (Some side)
    → IsFound net counts prices excess source side held.marks
found_at net counts prices excess source side held state ended = record {
  state = state;
  reached = ended.reached;
  ways = record { ways = ended.reached.settled.ways; waits = ended.next.current.waits; behind = ended.next.behind };
}

few_marks : (net : Network) (counts : List ℕ) (prices excess : List ℤ) (source side : ℕ) (marks : List (Option Mark))
    → IsFound net counts prices excess source side marks → settled_count marks < 2 ^ 18
few_marks net counts prices excess source side marks found =
    let few = few_sides net found.state.ground.of_a_function in
    let priced = found.state.ground.priced in
    let each = found.reached.settled.each in
    let count = few_settled marks in
    omega (arith, few, priced, each, count)

pub limit_near : (net : Network) (counts : List ℕ) (prices excess : List ℤ) (source side : ℕ) (marks : List (Option Mark))
    → IsFound net counts prices excess source side marks → distance_at marks side < 2 ^ 62
limit_near net counts prices excess source side marks found =
    let mark = marked marks side side found.ways.waits (inl refl) in
    let near = way_near (task_of net counts prices excess source) marks found.state.ground found.ways.ways found.reached.settled.each side mark.0 mark.1 in
    let d = ap distance_of mark.1 in
    omega (arith, near, d)

-- a side that lacks something is no nearer than the one that was found
lacking_far : (net : Network) (counts : List ℕ) (prices excess : List ℤ) (source side : ℕ) (marks : List (Option Mark))
    → IsFound net counts prices excess source side marks → (other : ℕ) → price_at excess other <ℤ pos 0 → distance_at marks side ≤ distance_at marks other
lacking_far net counts prices excess source side marks found other lacks =
    elim (cases_lt (distance_at marks other) (distance_at marks side)) [
      | inl near ↦
          let enough = found.reached.settled.none_lacks other (found.reached.nearest other near) in
          absurd (omega (arith, ints, enough, lacks))
      | inr beyond ↦ beyond
    ]

-- a moved price is as it was, or what two ways from the source give apart from that of the side
moved_near : (net : Network) (counts : List ℕ) (prices excess : List ℤ) (source side : ℕ) (marks : List (Option Mark))
    → IsFound net counts prices excess source side marks → (other : ℕ)
    → (moved (price_at prices) (distance_at marks) (distance_at marks side) other ≡ price_at prices other)
    ⊎ IsNearLack prices excess (moved (price_at prices) (distance_at marks) (distance_at marks side) other)
moved_near net counts prices excess source side marks found other =
    elim (cases_lt (distance_at marks other) (distance_at marks side)) [
      | inl near ↦
          let few = few_marks net counts prices excess source side marks found in
          let end = marked marks side side found.ways.waits (inl refl) in
          let end_cost = way_cost (task_of net counts prices excess source) marks found.state.ground found.ways.ways side end.0 end.1 in
          let end_d = ap distance_of end.1 in
          let mark = marked marks side other found.ways.waits (inr (found.reached.nearest other near)) in
          let cost = way_cost (task_of net counts prices excess source) marks found.state.ground found.ways.ways other mark.0 mark.1 in
          let d = ap distance_of mark.1 in
          inr (record {
            side = side;
            lacks = found.reached.lacks;
            most = omega (arith, ints, few, end_cost.above, end_cost.below, end_d, cost.above, cost.below, d, near);
            least = omega (arith, ints, few, end_cost.above, end_cost.below, end_d, cost.above, cost.below, d, near);
          })
      | inr beyond ↦ inl (omega (arith, ints, beyond))
    ]

moved_small : (net : Network) (counts : List ℕ) (prices excess : List ℤ) (source side : ℕ) (marks : List (Option Mark))
    → IsFound net counts prices excess source side marks → (other : ℕ)
    → IsSmallPrice (moved (price_at prices) (distance_at marks) (distance_at marks side) other)
moved_small net counts prices excess source side marks found other =
    elim (moved_near net counts prices excess source side marks found other) [
      | inl same ↦ subst IsSmallPrice (sym same) (small_at prices found.state.ground.small other)
      | inr near ↦
          let low = found.state.low near.side near.lacks in
          record {
            least = omega (arith, ints, low.least, low.most, near.least, near.most);
            most = omega (arith, ints, low.least, low.most, near.least, near.most);
          }
    ]

-- the prices that were moved
pub record AreMoved (prices : List ℤ) (marks : List (Option Mark)) (side : ℕ) (new : List ℤ) : Type 0 where
  pub each : length new ≡ length prices
  pub moved_all : (other : ℕ) → price_at new other ≡ moved (price_at prices) (distance_at marks) (distance_at marks side) other

small_moved : (net : Network) (counts : List ℕ) (prices excess : List ℤ) (source side : ℕ) (marks : List (Option Mark)) (new : List ℤ)
    → IsFound net counts prices excess source side marks → AreMoved prices marks side new → AreSmall new
small_moved net counts prices excess source side marks new found are k d within =
    let small = moved_small net counts prices excess source side marks found k in
    subst (λ (z : ℤ). IsSmallPrice z) (sym (get_or_default new k d (pos 0) within ∙ are.moved_all k)) small

-- what lacks something keeps its price
lacking_same : (net : Network) (counts : List ℕ) (prices excess : List ℤ) (source side : ℕ) (marks : List (Option Mark)) (new_prices : List ℤ)
    → IsFound net counts prices excess source side marks → AreMoved prices marks side new_prices
    → (other : ℕ) → price_at excess other <ℤ pos 0 → price_at new_prices other ≡ price_at prices other
lacking_same net counts prices excess source side marks new_prices found are other lacks =
    let beyond = lacking_far net counts prices excess source side marks found other lacks in
    let is = are.moved_all other in
    omega (arith, ints, beyond, is)

-- moved prices fit as well
pub prices_moved : (net : Network) (counts : List ℕ) (prices excess : List ℤ) (source side : ℕ) (marks : List (Option Mark)) (new_prices : List ℤ)
    → IsFound net counts prices excess source side marks → AreMoved prices marks side new_prices → IsState net counts new_prices excess
prices_moved net counts prices excess source side marks new_prices found are =
    let state = found.state in
    let price = moved (price_at prices) (distance_at marks) (distance_at marks side) in
    record {
      ground = record {
        of_a_function = state.ground.of_a_function;
        counted = state.ground.counted;
        priced = are.each ∙ state.ground.priced;
        small = small_moved net counts prices excess source side marks new_prices found are;
        fit = fit_same price (price_at new_prices) (arcs_of net) counts are.moved_all
            (moved_prices_fit (price_at prices) (distance_at marks) (distance_at marks side) (arcs_of net) counts state.ground.fit found.reached.hold);
      };
      within = state.within;
      told = state.told ∙ sym are.each;
      are_excess = state.are_excess;
      even = state.even;
      bounded = state.bounded;
      low = λ other lacks.
          subst IsLowPrice (sym (lacking_same net counts prices excess source side marks new_prices found are other lacks)) (state.low other lacks);
    }

-- what lacks something keeps its price, and the other prices are near one that did
pub later_moved : (net : Network) (counts : List ℕ) (prices excess : List ℤ) (source side : ℕ) (marks : List (Option Mark)) (new_prices : List ℤ)
    → IsFound net counts prices excess source side marks → AreMoved prices marks side new_prices → AreLater counts prices excess counts new_prices excess
later_moved net counts prices excess source side marks new_prices found are = record {
  each = refl;
  no_more = omega arith;
  kept = λ other least. least;
  lacked = λ other lacks. lacks;
  steady = lacking_same net counts prices excess source side marks new_prices found are;
  near = λ other. elim (moved_near net counts prices excess source side marks found other) [
    | inl same ↦ inl (are.moved_all other ∙ same)
    | inr near ↦ inr (subst (λ (z : ℤ). IsNearLack prices excess z) (sym (are.moved_all other)) near)
  ];
  under = λ most before. before;
}

-- ---- moved counts

-- a path by prices is one by equal prices
path_same : (arcs : List Arc) (counts : List ℕ) (price other : ℕ → ℤ) (source side : ℕ) (steps : List Step) → ((node : ℕ) → other node ≡ price node)
    → IsPath arcs counts price source side steps → IsPath arcs counts other source side steps
path_same arcs counts price other source side steps same path = record {
  leads = path.leads;
  apart = path.apart;
  leave = path.leave;
  tight = λ k d within.
      let step = slice_index_or steps k d in
      let tight = path.tight k d within in
      let start = same (step_start arcs step) in
      let end = same (step_end arcs step) in
      omega (arith, ints, tight, start, end);
}

-- what goes along a tight path leaves the prices fitting
pub moved_along : (net : Network) (counts : List ℕ) (prices excess : List ℤ) (source side : ℕ) (steps : List Step) (new_counts : List ℕ)
    (new_excess : List ℤ) (more : Bool) → IsState net counts prices excess → source < length excess → side < length excess
    → IsPath (arcs_of net) counts (price_at prices) source side steps
    → HasMoved (arcs_of net) counts excess source side steps new_counts new_excess more
    → IsAugmented net counts prices excess new_counts prices new_excess
moved_along net counts prices excess source side steps new_counts new_excess more state source_inside side_inside path has =
    let arcs = arcs_of net in
    let amount = has.amount in
    let fair : IsFair excess source side amount =
    record { starts = source_inside; leads = side_inside; some = has.some; has = has.has; lacks = has.lacks } in
    let rooms : All (HasRoom arcs counts amount) steps = λ k d within.
    let open_step = path.leave k d within in record { inside = open_step.inside; takes = has.takes k d within } in
    let after = pushed_fit arcs counts (price_at prices) amount steps has.some state.within state.ground.fit path.apart rooms path.tight in
    let sums = fair_sums excess source side amount fair in
    let told = transferred-length excess source side amount in
    let state_now : IsState net (pushed amount steps counts) prices (transferred excess source side amount) = record {
      ground = record {
        of_a_function = state.ground.of_a_function;
        counted = pushed-length amount steps counts ∙ state.ground.counted;
        priced = state.ground.priced;
        small = state.ground.small;
        fit = after.1;
      };
      within = after.0;
      told = told ∙ state.told;
      are_excess = λ node.
          let list = transferred_at excess source side amount node source_inside side_inside in
          let model = pushed_excess arcs counts amount source side steps node state.ground.counted path.leads path.apart rooms in
          let before = state.are_excess node in
          omega (arith, ints, list, model, before);
      even = let even = state.even in let a = sums.0 in let b = sums.1 in omega (arith, even, a, b);
      bounded = λ place.
          let raised = pushed_raised arcs counts amount steps place state.ground.counted path.apart path.leave in
          let before = state.bounded place in
          let a = sums.0 in
          omega (arith, raised, before, a);
      low = λ other lacks. state.low other (fair_lacks excess source side amount fair other lacks);
    } in
    let later : AreLater counts prices excess (pushed amount steps counts) prices (transferred excess source side amount) = record {
      each = told;
      no_more = let a = sums.0 in omega (arith, a);
      kept = fair_kept excess source side amount fair;
      lacked = fair_lacks excess source side amount fair;
      steady = λ other lacks. refl;
      near = λ other. inl refl;
      under = λ most before place.
          let raised = pushed_raised arcs counts amount steps place state.ground.counted path.apart path.leave in
          let was = before place in
          let a = sums.0 in
          omega (arith, raised, was, a);
    } in
    let now : IsAugmented net counts prices excess (pushed amount steps counts) prices (transferred excess source side amount) = record {
      given = record { state = state_now; later = later };
      less = let a = sums.0 in let some = has.some in omega (arith, a, some);
    } in
    subst (λ (list : List ℕ). IsAugmented net counts prices excess list prices new_excess) (sym has.counts_are)
    (subst (λ (list : List ℤ). IsAugmented net counts prices excess (pushed amount steps counts) prices list) (sym has.excess_is) now)

-- what is later than what was later
pub later_more : (counts more_counts last_counts : List ℕ) (prices excess more_prices more_excess last_prices last_excess : List ℤ)
    → AreLater counts prices excess more_counts more_prices more_excess → AreLater more_counts more_prices more_excess last_counts last_prices last_excess
    → AreLater counts prices excess last_counts last_prices last_excess
later_more counts more_counts last_counts prices excess more_prices more_excess last_prices last_excess before now = record {
  each = now.each ∙ before.each;
  no_more = let a = before.no_more in let b = now.no_more in omega (arith, a, b);
  kept = λ side least. now.kept side (before.kept side least);
  lacked = λ side lacks. before.lacked side (now.lacked side lacks);
  steady = λ side lacks. now.steady side lacks ∙ before.steady side (now.lacked side lacks);
  near = λ side. elim (now.near side) [
    | inl same ↦ elim (before.near side) [
      | inl also ↦ inl (same ∙ also)
      | inr near ↦ inr (subst (λ (z : ℤ). IsNearLack prices excess z) (sym same) near)
    ]
    | inr near ↦
        let was = before.steady near.side near.lacks in
        inr (record {
          side = near.side;
          lacks = before.lacked near.side near.lacks;
          most = let most = near.most in omega (arith, ints, most, was);
          least = let least = near.least in omega (arith, ints, least, was);
        })
  ];
  under = λ most within. now.under most (before.under most within);
}

pub later_none : (counts : List ℕ) (prices excess : List ℤ) → AreLater counts prices excess counts prices excess
later_none counts prices excess = record {
  each = refl;
  no_more = omega arith;
  kept = λ side least. least;
  lacked = λ side lacks. lacks;
  steady = λ side lacks. refl;
  near = λ side. inl refl;
  under = λ most within. within;
}

-- one augmentation behind what was before
pub augmented_behind : (net : Network) (counts more_counts last_counts : List ℕ) (prices excess more_prices more_excess last_prices last_excess : List ℤ)
    → AreLater counts prices excess more_counts more_prices more_excess
    → IsAugmented net more_counts more_prices more_excess last_counts last_prices last_excess
    → IsAugmented net counts prices excess last_counts last_prices last_excess
augmented_behind net counts more_counts last_counts prices excess more_prices more_excess last_prices last_excess before now = record {
  given = record {
    state = now.given.state;
    later = later_more counts more_counts last_counts prices excess more_prices more_excess last_prices last_excess before now.given.later;
  };
  less = let less = now.less in let no_more = before.no_more in omega (arith, less, no_more);
}

pub augmented : (net : Network) (counts : List ℕ) (prices excess : List ℤ) (source side : ℕ) (marks : List (Option Mark)) (steps : List Step)
    (new_counts : List ℕ) (new_prices new_excess : List ℤ) (more : Bool) → IsFound net counts prices excess source side marks → source < length excess
    → AreMoved prices marks side new_prices
    → IsPath (arcs_of net) counts (moved (price_at prices) (distance_at marks) (distance_at marks side)) source side steps
    → HasMoved (arcs_of net) counts excess source side steps new_counts new_excess more
    → IsAugmented net counts prices excess new_counts new_prices new_excess
augmented net counts prices excess source side marks steps new_counts new_prices new_excess more found source_inside are path has =
    let side_inside : side < length excess = let inside = found.reached.inside in let told = found.state.told in omega (arith, inside, told) in
    let now = moved_along net counts new_prices excess source side steps new_counts new_excess more
    (prices_moved net counts prices excess source side marks new_prices found are) source_inside side_inside
    (path_same (arcs_of net) counts (moved (price_at prices) (distance_at marks) (distance_at marks side)) (price_at new_prices) source side steps are.moved_all path) has in
    augmented_behind net counts counts new_counts prices excess new_prices excess new_prices new_excess
    (later_moved net counts prices excess source side marks new_prices found are) now

-- ---- the rounds

-- the sides before this one have no excess, unless some sides are left out
pub record IsBalancing (net : Network) (old_counts : List ℕ) (old_prices old_excess : List ℤ) (old_left : ℕ) (counts : List ℕ)
    (prices excess : List ℤ) (left : ℕ) (marks : List (Option Mark)) (sides : ExcessSides) (side : ℕ) : Type 0 where
  pub given : IsGiven net old_counts old_prices old_excess counts prices excess
  pub spent : AreSpent old_left old_excess left excess
  pub marked_each : length marks ≡ length prices
  pub passed : sides ≡ Every → (other : ℕ) → other < side → price_at excess other ≤ℤ pos 0

-- nothing was given yet
pub given_none : (net : Network) (counts : List ℕ) (prices excess : List ℤ) → IsState net counts prices excess
    → IsGiven net counts prices excess counts prices excess
given_none net counts prices excess state = record { state = state; later = later_none counts prices excess }

pub spent_none : (left : ℕ) (excess : List ℤ) → AreSpent left excess left excess
spent_none left excess = record { fewer = omega arith; taken = omega arith }

-- what is given behind what was given
pub given_more : (net : Network) (counts more_counts last_counts : List ℕ) (prices excess more_prices more_excess last_prices last_excess : List ℤ)
    → IsGiven net counts prices excess more_counts more_prices more_excess → IsGiven net more_counts more_prices more_excess last_counts last_prices last_excess
    → IsGiven net counts prices excess last_counts last_prices last_excess
given_more net counts more_counts last_counts prices excess more_prices more_excess last_prices last_excess before now = record {
  state = now.state;
  later = later_more counts more_counts last_counts prices excess more_prices more_excess last_prices last_excess before.later now.later;
}

pub spent_more : (left more_left last_left : ℕ) (excess more_excess last_excess : List ℤ) → AreSpent left excess more_left more_excess
    → AreSpent more_left more_excess last_left last_excess → AreSpent left excess last_left last_excess
spent_more left more_left last_left excess more_excess last_excess before now =
    let a = before.fewer in
    let b = now.fewer in
    let c = before.taken in
    let d = now.taken in
    record { fewer = omega (arith, a, b); taken = omega (arith, c, d) }

-- one augmentation was made
pub spent_one : (left last_left : ℕ) (excess last_excess : List ℤ) → last_left + 1 ≡ left → surplus last_excess < surplus excess
    → AreSpent left excess last_left last_excess
spent_one left last_left excess last_excess one less = record { fewer = omega (arith, one); taken = omega (arith, one, less) }

pub side_passed : (net : Network) (old_counts : List ℕ) (old_prices old_excess : List ℤ) (old_left : ℕ) (counts new_counts : List ℕ)
    (prices excess new_prices new_excess : List ℤ) (left new_left : ℕ) (marks new_marks : List (Option Mark)) (sides : ExcessSides) (side : ℕ)
    → IsBalancing net old_counts old_prices old_excess old_left counts prices excess left marks sides side
    → IsGiven net counts prices excess new_counts new_prices new_excess → AreSpent left excess new_left new_excess
    → length new_marks ≡ length new_prices → (sides ≡ Every → price_at new_excess side ≤ℤ pos 0)
    → IsBalancing net old_counts old_prices old_excess old_left new_counts new_prices new_excess new_left new_marks sides (side + 1)
side_passed net old_counts old_prices old_excess old_left counts new_counts prices excess new_prices new_excess left new_left marks new_marks sides side
    so_far now spent same least = record {
      given = given_more net old_counts counts new_counts old_prices old_excess prices excess new_prices new_excess so_far.given now;
      spent = spent_more old_left left new_left old_excess excess new_excess so_far.spent spent;
      marked_each = same;
      passed = λ all other before.
          elim (cases_lt other side) [
            | inl earlier ↦ now.later.kept other (so_far.passed all other earlier)
            | inr last ↦
                let e : side ≡ other = omega (arith, before, last) in
                subst (λ (s : ℕ). price_at new_excess s ≤ℤ pos 0) e (least all)
          ];
    }

pub all_passed : (net : Network) (old_counts : List ℕ) (old_prices old_excess : List ℤ) (old_left : ℕ) (counts : List ℕ)
    (prices excess : List ℤ) (left : ℕ) (marks : List (Option Mark)) (sides : ExcessSides) (side : ℕ)
    → IsBalancing net old_counts old_prices old_excess old_left counts prices excess left marks sides side
    → length excess ≤ side → sides ≡ Every → IsDone net counts prices excess
all_passed net old_counts old_prices old_excess old_left counts prices excess left marks sides side so_far past all = record {
  state = so_far.given.state;
  balanced = none_lacks excess so_far.given.state.even (λ other within. so_far.passed all other (omega (arith, within, past)));
}

pub all_even : (net : Network) (counts : List ℕ) (prices excess : List ℤ) → IsState net counts prices excess
    → ((side : ℕ) → side < length excess → price_at excess side ≤ℤ pos 0) → IsDone net counts prices excess
all_even net counts prices excess state most = record { state = state; balanced = none_lacks excess state.even most }

-- ---- one search

-- what augmentations so far have given, the source has some excess, and the search has come to a side, or closed
pub record IsTaking (net : Network) (old_counts : List ℕ) (old_prices old_excess : List ℤ) (old_left : ℕ) (counts : List ℕ)
    (prices excess : List ℤ) (left source : ℕ) (held : Search) (found : Option ℕ) : Type 0 where
  pub given : IsGiven net old_counts old_prices old_excess counts prices excess
  pub spent : AreSpent old_left old_excess left excess
  pub some : 0 < left
  pub gathers : pos 0 <ℤ price_at excess source
  pub ended : HasEnded (task_of net counts prices excess source) held found

pub taking_marked : (net : Network) (old_counts : List ℕ) (old_prices old_excess : List ℤ) (old_left : ℕ) (counts : List ℕ)
    (prices excess : List ℤ) (left source : ℕ) (held : Search) (found : Option ℕ)
    → IsTaking net old_counts old_prices old_excess old_left counts prices excess left source held found
    → length held.marks ≡ length prices
taking_marked net old_counts old_prices old_excess old_left counts prices excess left source held None so_far =
    so_far.ended.reached.settled.each
taking_marked net old_counts old_prices old_excess old_left counts prices excess left source held (Some side) so_far =
    so_far.ended.reached.settled.each

-- what was taken, with one augmentation more
pub record AreTaken (net : Network) (old_counts : List ℕ) (old_prices old_excess : List ℤ) (old_left : ℕ) (counts : List ℕ)
    (prices excess : List ℤ) (left : ℕ) : Type 0 where
  pub augmented_is : IsAugmented net old_counts old_prices old_excess counts prices excess
  pub spent : AreSpent old_left old_excess left excess

pub taken_more : (net : Network) (old_counts : List ℕ) (old_prices old_excess : List ℤ) (old_left : ℕ) (counts : List ℕ)
    (prices excess : List ℤ) (left source : ℕ) (held : Search) (found : Option ℕ)
    (new_counts : List ℕ) (new_prices new_excess : List ℤ) (new_left : ℕ)
    → IsTaking net old_counts old_prices old_excess old_left counts prices excess left source held found
    → IsAugmented net counts prices excess new_counts new_prices new_excess → new_left + 1 ≡ left
    → AreTaken net old_counts old_prices old_excess old_left new_counts new_prices new_excess new_left
taken_more net old_counts old_prices old_excess old_left counts prices excess left source held found new_counts new_prices new_excess new_left
    so_far now one = record {
      augmented_is = augmented_behind net old_counts counts new_counts old_prices old_excess prices excess new_prices new_excess so_far.given.later now;
      spent = spent_more old_left left new_left old_excess excess new_excess so_far.spent (spent_one left new_left excess new_excess one now.less);
    }

-- the search that closed
pub taking_closed : (net : Network) (old_counts : List ℕ) (old_prices old_excess : List ℤ) (old_left : ℕ) (counts : List ℕ)
    (prices excess : List ℤ) (left source : ℕ) (held : Search)
    → IsTaking net old_counts old_prices old_excess old_left counts prices excess left source held None
    → IsClosedFrom net counts prices excess held.marks
taking_closed net old_counts old_prices old_excess old_left counts prices excess left source held so_far = record {
  source = source;
  state = so_far.given.state;
  gathers = so_far.gathers;
  closed = so_far.ended.reached;
}
