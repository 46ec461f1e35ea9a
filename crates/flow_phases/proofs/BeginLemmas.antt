-- What phases begin with, and what they leave.
use Rattle.std.proofs.Common.{◌≡◌, ℕ, zero, suc, ◌+◌, ◌-◌, ◌*◌, ◌^◌, ◌<◌, ◌≤◌, List, [], ◌∷◌, map, length, replicate, inl, inr, refl, arith, ap, sym, ◌∙◌, subst, pow-suc}
use Rattle.std.specs.Prelude.{ℤ, pos}
use Rattle.std.specs.Global.{Vec}
use Rattle.std.specs.List.{All}
use Rattle.std.specs.Vec.{with_items}
use Rattle.std.proofs.lemmas.Bool.{cases_lt}
use Rattle.std.proofs.lemmas.Int.{ints}
use Rattle.std.proofs.Math.Pow.{pow_mono}
use Rattle.std.proofs.lemmas.List.{get_or-replicate, get_or_past, get_or_default, length-map, length-replicate, with_items_is}
use Rattle.std.proofs.lemmas.List.Elements.{All-weaker}
use Rattle.std.proofs.lemmas.List.Sums.{sum_by-le}
use Rattle.flow_model.specs.declared.arc.Arc.{Arc}
use Rattle.flow_model.specs.Circulation.{IsWithin}
use Rattle.flow_model.specs.Network.{Network, arcs_of, free_arc}
use Rattle.flow_model.specs.Prices.{FitsOn}
use Rattle.flow_model.specs.Sound.{IsNet}
use Rattle.flow_model.proofs.LawLemmas.{a_cut_shows_no_counts}
use Rattle.flow_model.proofs.LimitLemmas.{nets_are_limited}
use Rattle.residual_model.specs.Residual.{starting}
use Rattle.scaling_model.specs.Coarse.{coarse}
use Rattle.scaling_model.specs.Laws.{IsRefined}
use Rattle.scaling_model.specs.Refining.{set_right, refined, rise_on}
use Rattle.scaling_model.proofs.CoarseLemmas.{shifts_halve}
use Rattle.scaling_model.proofs.HalvedLemmas.{coarse_nets_are_nets, coarse_cuts_are_cuts, coarse_starts_are_small}
use Rattle.scaling_model.proofs.RefineLemmas.{refined_counts_fit}
use Rattle.flow_network.specs.Flow.{holds}
use Rattle.flow_network.specs.declared.flow.Nodes.{Nodes}
use Rattle.path_search.specs.Ground.{arc_at, count_at, price_at, sides_of}
use Rattle.path_search.proofs.RowLemmas.{each_at, each_by_place}
use Rattle.flow_balance.specs.Answer.{TellsReached}
use Rattle.flow_balance.specs.Excess.{surplus_of, surplus}
use Rattle.flow_balance.specs.Solved.{IsCutOf}
use Rattle.flow_balance.specs.State.{AreLater, IsDone, IsStart}
use Rattle.flow_balance.proofs.AnswerLemmas.{cut_found}
use Rattle.flow_balance.proofs.StateLemmas.{started}
use Rattle.scaling_model.specs.Bound.{StartWithin}
use Rattle.flow_phases.specs.declared.state.State.{State}
use Rattle.flow_phases.specs.Phase.{AreLow, AreNear, CanBegin, HasCome, IsClosed, IsClosedIn, IsDoneIn, IsEvened, IsFresh, IsMarked, IsReady}
use Rattle.flow_phases.specs.Refining.{AreSetRight}
use Rattle.flow_phases.proofs.HalfLemmas.{half_at, halves_each, halves_of_coarse, inflow_doubled, outflow_doubled}
use Rattle.flow_phases.proofs.SizeLemmas.{blocks_coarse, sides_coarse}

-- ---- the first phase

at_zeros : (n k : ℕ) → price_at (replicate n (pos 0)) k ≡ pos 0
at_zeros n k =
    elim (cases_lt k n) [
      | inl within ↦ get_or-replicate n k (pos 0) (pos 0) within
      | inr past ↦ get_or_past (replicate n (pos 0)) k (pos 0) (let long = length-replicate n (pos 0) in omega (arith, long, past))
    ]

at_most : (digits : ℕ) (arc : Arc) → starting arc < 2 ^ digits → starting arc ≤ 2 ^ (digits + 0)
at_most digits arc small =
    let e : digits + 0 ≡ digits = omega arith in
    let same = ap (λ (k : ℕ). 2 ^ k) e in
    omega (arith, small, same)

pub first_begins : (net : Network) (digits : ℕ) (counts : List ℕ) (prices excess : List ℤ) → IsNet net → StartWithin digits net
    → IsStart (coarse digits net) counts excess → prices ≡ replicate (sides_of net) (pos 0)
    → CanBegin (coarse digits net) 0 counts prices excess
first_begins net digits counts prices excess is within start zeros =
    let units = coarse digits net in
    let none : (side : ℕ) → price_at prices side ≡ pos 0 = λ side.
    ap (λ (list : List ℤ). price_at list side) zeros ∙ at_zeros (sides_of net) side in
    let all = All-weaker (λ arc. starting arc < 2 ^ digits) (λ arc. starting arc ≤ 2 ^ (digits + 0)) (at_most digits) (arcs_of net) within in
    let small : All (λ arc. starting arc ≤ 2 ^ 0) (arcs_of units) = coarse_starts_are_small digits 0 net is all in
    let one_at : (place : ℕ) → place < length (arcs_of units) → starting (arc_at (arcs_of units) place) ≤ 1 = λ place inside.
    small place (free_arc 0 0 0) inside in
    let few : surplus excess ≤ length (arcs_of units) * 1 = start.few 1 one_at in
    let few_arcs = (nets_are_limited units start.of_a_function).few in
    record {
      state = started units counts prices excess start (zeros ∙ ap (λ (n : ℕ). replicate n (pos 0)) (sym (sides_coarse digits net)));
      few = omega (arith, few);
      near = record {
        least = λ side. let zero = none side in omega (arith, ints, zero);
        most = λ side. let zero = none side in omega (arith, ints, zero);
      };
      low = λ place.
          elim (cases_lt place (length (arcs_of units))) [
            | inl inside ↦
                let one = one_at place inside in
                let starts = start.starts place inside in
                omega (arith, one, starts, few, few_arcs)
            | inr past ↦
                let long = start.counted in
                let zero = get_or_past counts place 0 (omega (arith, past, long)) in
                omega (arith, zero, few, few_arcs)
          ];
    }

-- ---- doubled counts

pub doubled_at : (counts : List ℕ) (place : ℕ) → count_at (map (λ n. 2 * n) counts) place ≡ 2 * count_at counts place
doubled_at [] place = omega arith
doubled_at (n ∷ counts) zero = refl
doubled_at (n ∷ counts) (suc place) = doubled_at counts place

-- where each side is even there is no surplus
no_surplus : (excess : List ℤ) → ((side : ℕ) → price_at excess side ≡ pos 0) → surplus excess ≡ 0
no_surplus excess balanced =
    let none : All (λ z. surplus_of z ≤ 0) excess = λ k d within.
    let same = ap surplus_of (get_or_default excess k d (pos 0) within) in
    let zero = ap surplus_of (balanced k) in
    omega (arith, same, zero) in
    let few = sum_by-le surplus_of 0 excess none in
    omega (arith, few)

pub doubled_begins : (net : Network) (shift : ℕ) (counts : List ℕ) (prices excess : List ℤ) → IsNet net
    → IsDone (coarse (shift + 1) net) counts prices excess
    → AreSetRight (coarse shift net) (map (λ n. 2 * n) counts) prices (map (λ n. 2 * n) counts) excess 0
doubled_begins net shift counts prices excess is done =
    let halves = arcs_of (coarse (shift + 1) net) in
    let arcs = arcs_of (coarse shift net) in
    let are = halves_of_coarse shift net is in
    let each = halves_each halves arcs are in
    let long = length-map counts (λ (n : ℕ). 2 * n) in
    let counted = done.state.ground.counted in
    let told = done.state.told in
    let priced = done.state.ground.priced in
    let wide = sides_coarse (shift + 1) net in
    let narrow = sides_coarse shift net in
    record {
      counted = omega (arith, long, counted, each);
      told = omega (arith, told, priced, wide, narrow);
      right = λ place below inside. absurd (omega (arith, below));
      rest = λ place past. refl;
      are_excess = λ node.
          let into = inflow_doubled halves arcs counts node are in
          let out = outflow_doubled halves arcs counts node are in
          let at = done.state.are_excess node in
          let zero = done.balanced node in
          omega (arith, ints, into, out, at, zero);
      even = done.state.even;
      few = let none = no_surplus excess done.balanced in omega (arith, none);
    }

-- ---- counts that are set right

-- a count is refined
refined_at : (net : Network) (shift : ℕ) (counts : List ℕ) (prices excess : List ℤ) (new_counts : List ℕ) (new_excess : List ℤ) (place : ℕ)
    → IsNet net → IsDone (coarse (shift + 1) net) counts prices excess
    → AreSetRight (coarse shift net) (map (λ n. 2 * n) counts) prices new_counts new_excess (length (arcs_of (coarse shift net)))
    → place < length (arcs_of (coarse shift net))
    → IsRefined (price_at prices) (arc_at (arcs_of (coarse shift net)) place) (count_at counts place) (count_at new_counts place)
refined_at net shift counts prices excess new_counts new_excess place is done right inside =
    let halves = arcs_of (coarse (shift + 1) net) in
    let arcs = arcs_of (coarse shift net) in
    let arc = arc_at arcs place in
    let n = count_at counts place in
    let are = halves_of_coarse shift net is in
    let each = halves_each halves arcs are in
    let within : place < length halves = omega (arith, inside, each) in
    let limited = (nets_are_limited (coarse shift net) (coarse_nets_are_nets shift net is)).arcs place (free_arc 0 0 0) inside in
    let fit = refined_counts_fit (price_at prices) (arc_at halves place) arc n limited.ordered (half_at halves arcs are place inside)
    (each_at IsWithin halves counts done.state.within place within)
    (each_at (FitsOn (price_at prices)) halves counts done.state.ground.fit place within) in
    let same : count_at new_counts place ≡ refined (rise_on (price_at prices) arc) arc n
    = right.right place inside inside ∙ ap (λ (m : ℕ). set_right (rise_on (price_at prices) arc) arc m) (doubled_at counts place) in
    subst (λ (m : ℕ). IsRefined (price_at prices) arc n m) (sym same) fit

-- a count grows to its double and one at most
grown_at : (net : Network) (shift : ℕ) (counts : List ℕ) (prices excess : List ℤ) (new_counts : List ℕ) (new_excess : List ℤ) (place : ℕ)
    → IsNet net → IsDone (coarse (shift + 1) net) counts prices excess
    → AreSetRight (coarse shift net) (map (λ n. 2 * n) counts) prices new_counts new_excess (length (arcs_of (coarse shift net)))
    → count_at new_counts place ≤ 2 * count_at counts place + 1
grown_at net shift counts prices excess new_counts new_excess place is done right =
    elim (cases_lt place (length (arcs_of (coarse shift net)))) [
      | inl inside ↦ (refined_at net shift counts prices excess new_counts new_excess place is done right inside).most
      | inr past ↦
          let same = right.rest place past in
          let double = doubled_at counts place in
          omega (arith, same, double)
    ]

twice_pow : (phases : ℕ) → 2 ^ (phases + 1 + 19) ≡ 2 ^ (phases + 19) * 2
twice_pow phases = let e : phases + 1 + 19 ≡ suc (phases + 19) = omega arith in ap (λ (k : ℕ). 2 ^ k) e ∙ pow-suc 2 (phases + 19)

pub next_begins : (net : Network) (shift phases : ℕ) (counts : List ℕ) (prices excess : List ℤ) (new_counts : List ℕ) (new_excess : List ℤ)
    → IsNet net → phases ≤ 44 → IsDone (coarse (shift + 1) net) counts prices excess → AreNear phases prices → AreLow phases counts excess
    → AreSetRight (coarse shift net) (map (λ n. 2 * n) counts) prices new_counts new_excess (length (arcs_of (coarse shift net)))
    → CanBegin (coarse shift net) phases new_counts prices new_excess
next_begins net shift phases counts prices excess new_counts new_excess is most done near low right =
    let units = coarse shift net in
    let arcs = arcs_of units in
    let units_are = coarse_nets_are_nets shift net is in
    let few_arcs = (nets_are_limited units units_are).few in
    let ground = done.state.ground in
    let priced = ground.priced ∙ (sides_coarse (shift + 1) net ∙ sym (sides_coarse shift net)) in
    let refined_all = λ (place : ℕ) (inside : place < length arcs). refined_at net shift counts prices excess new_counts new_excess place is done right inside in
    let grown : AreLow (phases + 1) new_counts new_excess = λ place.
    let more = grown_at net shift counts prices excess new_counts new_excess place is done right in
    let few = right.few in
    let was = low place in
    let double = twice_pow phases in
    omega (arith, more, few, few_arcs, was, double) in
    let small : 2 ^ (phases + 1 + 19) ≤ 2 ^ 64 = pow_mono {i = phases + 1 + 19} {j = 64} (omega (arith, most)) in
    record {
      state = record {
        ground = record {
          of_a_function = units_are;
          counted = right.counted;
          priced = priced;
          small = ground.small;
          fit = each_by_place (FitsOn (price_at prices)) arcs new_counts right.counted (λ place inside. (refined_all place inside).fits);
        };
        within = each_by_place IsWithin arcs new_counts right.counted (λ place inside. (refined_all place inside).within);
        told = right.told ∙ sym priced;
        are_excess = right.are_excess;
        even = right.even;
        bounded = λ place. let now = grown place in omega (arith, now, small);
        low = λ side lacks. record {
          least = let least = near.least side in omega (arith, ints, least, most);
          most = let top = near.most side in omega (arith, ints, top, most);
        };
      };
      few = right.few;
      near = near;
      low = grown;
    }

-- ---- behind a phase

pub near_later : (phases : ℕ) (counts new_counts : List ℕ) (prices excess new_prices new_excess : List ℤ) → AreNear phases prices
    → AreLater counts prices excess new_counts new_prices new_excess → AreNear (phases + 1) new_prices
near_later phases counts new_counts prices excess new_prices new_excess near later = record {
  least = λ side.
      elim (later.near side) [
        | inl same ↦ let least = near.least side in omega (arith, ints, same, least)
        | inr by ↦ let least = near.least by.side in let under = by.least in omega (arith, ints, least, under)
      ];
  most = λ side.
      elim (later.near side) [
        | inl same ↦ let most = near.most side in omega (arith, ints, same, most)
        | inr by ↦ let most = near.most by.side in let over = by.most in omega (arith, ints, most, over)
      ];
}

pub low_later : (phases : ℕ) (counts new_counts : List ℕ) (prices excess new_prices new_excess : List ℤ) → AreLow phases counts excess
    → AreLater counts prices excess new_counts new_prices new_excess → AreLow phases new_counts new_excess
low_later phases counts new_counts prices excess new_prices new_excess low later place =
    let under = later.under (2 ^ (phases + 19) - 2 ^ 19) (λ other. let was = low other in omega (arith, was)) place in
    let some = low 0 in
    omega (arith, under, some)

-- ---- in units

pub first_can : (net units : Network) (digits : ℕ) (counts : List ℕ) (prices excess : List ℤ) → units ≡ coarse digits net → IsNet net
    → StartWithin digits net → IsStart units counts excess → prices ≡ replicate (sides_of net) (pos 0) → CanBegin units 0 counts prices excess
first_can net units digits counts prices excess are is within start zeros =
    subst (λ (n : Network). CanBegin n 0 counts prices excess) (sym are)
    (first_begins net digits counts prices excess is within (subst (λ (n : Network). IsStart n counts excess) are start) zeros)

evened_come : (net units : Network) (digits step shift : ℕ) (old new : State) → units ≡ coarse shift net → shift ≡ digits - step
    → CanBegin units step old.counts.items old.prices.items old.excess.items → IsEvened units old new → HasCome net digits step new
evened_come net units digits step shift old new are same begun evened =
    let units_are : units ≡ coarse (digits - step) net = are ∙ ap (λ (k : ℕ). coarse k net) same in
    record {
      done = subst (λ (n : Network). IsDoneIn n new) units_are evened.done;
      near = near_later step _ _ _ _ _ _ begun.near evened.later;
      low = low_later (step + 1) _ _ _ _ _ _ begun.low evened.later;
    }

pub first_come : (net units : Network) (digits : ℕ) (old new : State) (counts : List ℕ) (prices excess : List ℤ) → IsEvened units old new
    → units ≡ coarse digits net → old.counts.items ≡ counts → old.prices.items ≡ prices → old.excess.items ≡ excess
    → CanBegin units 0 counts prices excess → HasCome net digits 0 new
first_come net units digits old new counts prices excess evened are same_counts same_prices same_excess begun =
    let same : digits ≡ digits - 0 = omega arith in
    evened_come net units digits 0 digits old new are same (rw (same_counts, same_prices, same_excess) begun) evened

-- what was least, in units of twice the size
done_before : (net : Network) (digits step : ℕ) (held : State) → step < digits → HasCome net digits step held
    → IsDoneIn (coarse (digits - step - 1 + 1) net) held
done_before net digits step held before come =
    let same : digits - step ≡ digits - step - 1 + 1 = omega (arith, before) in
    subst (λ (k : ℕ). IsDoneIn (coarse k net) held) same come.done

pub next_begun : (net units : Network) (digits step : ℕ) (held : State) (doubled : List ℕ) → units ≡ coarse (digits - step - 1) net
    → doubled ≡ map (λ n. 2 * n) held.counts.items → IsNet net → step < digits → HasCome net digits step held
    → AreSetRight units doubled held.prices.items doubled held.excess.items 0
next_begun net units digits step held doubled are twice is before come =
    let prices = held.prices.items in
    let excess = held.excess.items in
    let begun = doubled_begins net (digits - step - 1) held.counts.items prices excess is (done_before net digits step held before come) in
    subst (λ (n : Network). AreSetRight n doubled prices doubled excess 0) (sym are)
    (subst (λ (list : List ℕ). AreSetRight (coarse (digits - step - 1) net) list prices list excess 0) (sym twice) begun)

-- counts that are to be doubled stay within their type
pub still_small : (step : ℕ) (counts : List ℕ) (excess : List ℤ) → step < 44 → AreLow (step + 1) counts excess
    → (place : ℕ) → count_at counts place < 2 ^ 63
still_small step counts excess few low place =
    let was = low place in
    let small : 2 ^ (step + 1 + 19) ≤ 2 ^ 63 = pow_mono {i = step + 1 + 19} {j = 63} (omega (arith, few)) in
    omega (arith, was, small)

pub next_can : (net units : Network) (digits step : ℕ) (held : State) (doubled new_counts : List ℕ) (new_excess : List ℤ)
    → units ≡ coarse (digits - step - 1) net → doubled ≡ map (λ n. 2 * n) held.counts.items → IsNet net → step < digits → digits ≤ 44
    → HasCome net digits step held → AreSetRight units doubled held.prices.items new_counts new_excess (length (arcs_of units))
    → CanBegin units (step + 1) new_counts held.prices.items new_excess
next_can net units digits step held doubled new_counts new_excess are twice is before most come right =
    let there = coarse (digits - step - 1) net in
    let prices = held.prices.items in
    let right_there = subst (λ (n : Network). AreSetRight n doubled prices new_counts new_excess (length (arcs_of n))) are right in
    let right_twice = subst (λ (list : List ℕ). AreSetRight there list prices new_counts new_excess (length (arcs_of there))) twice right_there in
    subst (λ (n : Network). CanBegin n (step + 1) new_counts prices new_excess) (sym are)
    (next_begins net (digits - step - 1) (step + 1) held.counts.items prices held.excess.items new_counts new_excess is (omega (arith, before, most))
    (done_before net digits step held before come) come.near come.low right_twice)

-- there is a price for each side
pub priced_in : (net : Network) (digits step : ℕ) (held : State) → HasCome net digits step held → length held.prices.items ≡ sides_of net
priced_in net digits step held come = come.done.state.ground.priced ∙ sides_coarse (digits - step) net

pub fresh_priced : (net : Network) (held : State) → IsFresh net held → length held.prices.items ≡ sides_of net
fresh_priced net held fresh = ap length fresh.prices ∙ length-replicate (sides_of net) (pos 0)

-- and so in units of any size
pub priced_units : (net units : Network) (shift : ℕ) (held : State) → units ≡ coarse shift net → length held.prices.items ≡ sides_of net
    → length held.prices.items ≡ sides_of units
priced_units net units shift held are priced = priced ∙ sym (ap sides_of are ∙ sides_coarse shift net)

pub next_come : (net units : Network) (digits step : ℕ) (old new : State) (counts : List ℕ) (prices excess : List ℤ) → IsEvened units old new
    → units ≡ coarse (digits - step - 1) net → old.counts.items ≡ counts → old.prices.items ≡ prices → old.excess.items ≡ excess
    → CanBegin units (step + 1) counts prices excess → HasCome net digits (step + 1) new
next_come net units digits step old new counts prices excess evened are same_counts same_prices same_excess begun =
    let same : digits - step - 1 ≡ digits - (step + 1) = omega arith in
    evened_come net units digits (step + 1) (digits - step - 1) old new are same (rw (same_counts, same_prices, same_excess) begun) evened

-- a vector whose slice was written holds what was written
pub written : {A : Type 0} (was : Vec A) (new slice : List A) → length new ≡ length slice → length slice ≡ was.len → (with_items was new).items ≡ new
written was new slice same long = with_items_is was new (same ∙ long)

-- what a state holds can be balanced
pub ready_in : (net : Network) (phases : ℕ) (held : State) (counts : List ℕ) (prices excess : List ℤ) → held.counts.items ≡ counts
    → held.prices.items ≡ prices → held.excess.items ≡ excess → CanBegin net phases counts prices excess → IsMarked held → IsReady net held
ready_in net phases held counts prices excess same_counts same_prices same_excess begun marked = record {
  state = rw (same_counts, same_prices, same_excess) begun.state;
  few = rw same_excess begun.few;
  marked = marked;
}

-- and what it holds was balanced
pub evened_in : (net : Network) (old new : State) (counts more_counts : List ℕ) (prices excess more_prices more_excess : List ℤ)
    → old.counts.items ≡ counts → old.prices.items ≡ prices → old.excess.items ≡ excess
    → new.counts.items ≡ more_counts → new.prices.items ≡ more_prices → new.excess.items ≡ more_excess
    → IsDone net more_counts more_prices more_excess × AreLater counts prices excess more_counts more_prices more_excess → IsEvened net old new
evened_in net old new counts more_counts prices excess more_prices more_excess was_counts was_prices was_excess are_counts are_prices are_excess both = record {
  done = rw (are_counts, are_prices, are_excess) both.0;
  later = rw (was_counts, was_prices, was_excess, are_counts, are_prices, are_excess) both.1;
}

-- behind the last phase
pub all_done : (net : Network) (digits step : ℕ) (held : State) → digits ≤ step → HasCome net digits step held → IsDoneIn net held
all_done net digits step held past come =
    let none : digits - step ≡ 0 = omega (arith, past) in
    let same : coarse (digits - step) net ≡ net = ap (λ (shift : ℕ). coarse shift net) none ∙ (shifts_halve net).0 in
    subst (λ (n : Network). IsDoneIn n held) same come.done

-- ---- a cut

pub closed_in : (net units : Network) (shift : ℕ) (held : State) → units ≡ coarse shift net → IsClosedIn units held → IsClosed net held
closed_in net units shift held are closed = record { shift = shift; closed = subst (λ (n : Network). IsClosedIn n held) are closed }

pub closed_is_cut : (net : Network) (held : State) (nodes : Nodes) → IsNet net → IsClosed net held
    → TellsReached net held.work.search.marks nodes → IsCutOf net nodes
closed_is_cut net held nodes is closed tell =
    let blocks = blocks_coarse closed.shift net in
    let sides = sides_coarse closed.shift net in
    let found = cut_found (coarse closed.shift net) _ _ _ _ nodes closed.closed (record {
      sides = (tell.sides.0 ∙ sym blocks, tell.sides.1 ∙ sym blocks);
      same = λ side within. tell.same side (omega (arith, within, sides));
    }) in
    let cut = coarse_cuts_are_cuts closed.shift net (holds nodes) is found.cut in
    record {
      sides = tell.sides;
      cut = cut;
      none = a_cut_shows_no_counts net (holds nodes) cut;
    }
