-- Counts that are set right, arc by arc.
use Rattle.std.proofs.Common.{◌≡◌, ◌≢◌, ℕ, ◌+◌, ◌-◌, ◌*◌, ◌^◌, ◌<◌, ◌≤◌, ◌==◌, Bool, true, false, ◌&&◌, List, map, length, inl, inr, refl, arith, ap, sym, ◌∙◌, subst}
use Rattle.std.specs.Prelude.{nat_lt, int_lt, slice_set, ℤ, pos}
use Rattle.std.proofs.lemmas.Bool.{cases_eq, cond_both}
use Rattle.std.proofs.lemmas.Int.{ints}
use Rattle.std.proofs.lemmas.List.{get_or-set_same, get_or-set_other, length-set, length-map, same_lists, get_or_default, get_or-map}
use Rattle.std.proofs.lemmas.List.Sums.{get_or-le-sum_by}
use Rattle.block_model.specs.Judging.{exceeds}
use Rattle.flow_model.specs.declared.arc.Arc.{Arc}
use Rattle.flow_model.specs.Network.{Network, arcs_of, free_arc}
use Rattle.flow_model.specs.Sound.{IsNet}
use Rattle.flow_model.proofs.LimitLemmas.{nets_are_limited}
use Rattle.scaling_model.specs.Refining.{set_right, rise_on}
use Rattle.path_search.specs.Ground.{arc_at, count_at, price_at}
use Rattle.path_search.proofs.PathLemmas.{when, sum_set}
use Rattle.flow_balance.specs.Excess.{surplus_of, lack_of, surplus, lack, transferred}
use Rattle.flow_balance.proofs.ExcessLemmas.{transferred_at, transferred-length, transferred_even}
use Rattle.flow_phases.specs.Refining.{AreSetRight, IsShifted}

-- ---- one count

-- numbers at most one apart
pub IsNextTo : ℕ → ℕ → Type 0
IsNextTo n m = (n ≤ m + 1) × (m ≤ n + 1)

pub right_near : (rise : ℤ) (arc : Arc) (n : ℕ) → IsNextTo n (set_right rise arc n)
unfolding IsNextTo
right_near rise arc n =
    cond_both (nat_lt n arc.lower) _ _ (IsNextTo n) (λ _. (omega arith, omega arith))
    (λ _. cond_both (exceeds n arc.upper) _ _ (IsNextTo n) (λ _. (omega arith, omega arith))
    (λ _. cond_both (nat_lt arc.lower n && (nat_lt arc.weight n && int_lt rise (pos arc.up))) _ _ (IsNextTo n)
    (λ _. (omega arith, omega arith)) (λ _. (omega arith, omega arith))))

-- ---- the excess of one arc

when_rest : (b : Bool) (n m amount : ℕ) → n + amount ≡ m → when b n + when b amount ≡ when b m
when_rest true n m amount is = is
when_rest false n m amount is = refl

pub shifted_up : (excess : List ℤ) (tail head old_count count : ℕ) → tail < length excess → head < length excess → old_count ≤ count
    → count ≤ old_count + 1 → surplus excess ≡ lack excess
    → IsShifted excess tail head old_count count (transferred excess tail head (count - old_count))
shifted_up excess tail head old_count count starts leads order few even =
    let amount = count - old_count in
    let all = transferred_even excess tail head amount starts leads even in
    record {
      each = transferred-length excess tail head amount;
      at_each = λ node.
          let at = transferred_at excess tail head amount node starts leads in
          let into = when_rest (head == node) old_count count amount (omega (arith, order)) in
          let out = when_rest (tail == node) old_count count amount (omega (arith, order)) in
          omega (arith, ints, at, into, out);
      even = λ _. all.0;
      few = let more = all.1 in omega (arith, more, few);
    }

pub shifted_down : (excess : List ℤ) (tail head old_count count : ℕ) → tail < length excess → head < length excess → count ≤ old_count
    → old_count ≤ count + 1 → surplus excess ≡ lack excess
    → IsShifted excess tail head old_count count (transferred excess head tail (old_count - count))
shifted_down excess tail head old_count count starts leads order few even =
    let amount = old_count - count in
    let all = transferred_even excess head tail amount leads starts even in
    record {
      each = transferred-length excess head tail amount;
      at_each = λ node.
          let at = transferred_at excess head tail amount node leads starts in
          let into = when_rest (head == node) count old_count amount (omega (arith, order)) in
          let out = when_rest (tail == node) count old_count amount (omega (arith, order)) in
          omega (arith, ints, at, into, out);
      even = λ _. all.0;
      few = let more = all.1 in omega (arith, more, few);
    }

pub room_at : (excess : List ℤ) (side : ℕ) → side < length excess → surplus excess < 2 ^ 62 → surplus excess ≡ lack excess
    → (surplus_of (price_at excess side) < 2 ^ 62) × (lack_of (price_at excess side) < 2 ^ 62)
room_at excess side inside few even =
    let has = get_or-le-sum_by surplus_of excess side (pos 0) inside in
    let lacks = get_or-le-sum_by lack_of excess side (pos 0) inside in
    (omega (arith, has, few), omega (arith, lacks, few, even))

-- ---- all counts

-- what is known of the arc at a place
pub record IsPlacedAt (net : Network) (place : ℕ) (excess : List ℤ) : Type 0 where
  pub starts : (arc_at (arcs_of net) place).tail < length excess
  pub leads : (arc_at (arcs_of net) place).head < length excess
  pub few : surplus excess < 2 ^ 62

pub placed_at : (net : Network) (old_counts : List ℕ) (prices : List ℤ) (counts : List ℕ) (excess : List ℤ) (k : ℕ) → IsNet net
    → k < length (arcs_of net) → AreSetRight net old_counts prices counts excess k → IsPlacedAt net k excess
placed_at net old_counts prices counts excess k is within so_far =
    let limits = nets_are_limited net is in
    let limited = limits.arcs k (free_arc 0 0 0) within in
    let told = so_far.told in
    record {
      starts = let tail = limited.starts in omega (arith, tail, told);
      leads = let head = limited.goes in omega (arith, head, told);
      few = let few = so_far.few in let few_arcs = limits.few in omega (arith, few, few_arcs, within);
    }

pub right_more : (net : Network) (old_counts : List ℕ) (prices : List ℤ) (counts : List ℕ) (excess : List ℤ) (k right : ℕ) (new_excess : List ℤ)
    → k < length (arcs_of net) → AreSetRight net old_counts prices counts excess k
    → right ≡ set_right (rise_on (price_at prices) (arc_at (arcs_of net) k)) (arc_at (arcs_of net) k) (count_at counts k)
    → IsShifted excess (arc_at (arcs_of net) k).tail (arc_at (arcs_of net) k).head (count_at counts k) right new_excess
    → AreSetRight net old_counts prices (slice_set counts k right) new_excess (k + 1)
right_more net old_counts prices counts excess k right new_excess within so_far is shifted =
    let arc = arc_at (arcs_of net) k in
    let long = so_far.counted in
    let set : count_at (slice_set counts k right) k ≡ right = get_or-set_same counts k right 0 (omega (arith, within, long)) in
    let was : count_at counts k ≡ count_at old_counts k = so_far.rest k (omega arith) in
    record {
      counted = length-set counts k right ∙ so_far.counted;
      told = shifted.each ∙ so_far.told;
      right = λ place below inside.
          elim (cases_eq place k) [
            | inl e ↦
                subst (λ (p : ℕ). count_at (slice_set counts k right) p
                ≡ set_right (rise_on (price_at prices) (arc_at (arcs_of net) p)) (arc_at (arcs_of net) p) (count_at old_counts p)) (sym e)
                (set ∙ (is ∙ ap (λ (n : ℕ). set_right (rise_on (price_at prices) arc) arc n) was))
            | inr apart ↦ get_or-set_other counts k place right 0 apart ∙ so_far.right place (omega (arith, below, apart)) inside
          ];
      rest = λ place past.
          let apart : place ≢ k = λ e. omega (arith, e, past) in
          get_or-set_other counts k place right 0 apart ∙ so_far.rest place (omega (arith, past));
      are_excess = λ node.
          let into = sum_set (λ other. other.head == node) (arcs_of net) counts k right so_far.counted within in
          let out = sum_set (λ other. other.tail == node) (arcs_of net) counts k right so_far.counted within in
          let at = shifted.at_each node in
          let before = so_far.are_excess node in
          omega (arith, ints, into, out, at, before);
      even = shifted.even so_far.even;
      few = let more = shifted.few in let few = so_far.few in omega (arith, more, few);
    }

pub right_all : (net : Network) (old_counts : List ℕ) (prices : List ℤ) (counts : List ℕ) (excess : List ℤ) (k : ℕ) → length (arcs_of net) ≤ k
    → k ≤ length (arcs_of net) → AreSetRight net old_counts prices counts excess k
    → AreSetRight net old_counts prices counts excess (length (arcs_of net))
right_all net old_counts prices counts excess k past most so_far =
    let e : k ≡ length (arcs_of net) = omega (arith, past, most) in
    subst (λ (n : ℕ). AreSetRight net old_counts prices counts excess n) e so_far

-- ---- doubling

-- so many counts are doubled
pub record IsDoubling (old_counts counts : List ℕ) (k : ℕ) : Type 0 where
  pub each : length counts ≡ length old_counts
  pub first : (place : ℕ) → place < k → count_at counts place ≡ 2 * count_at old_counts place
  pub rest : (place : ℕ) → k ≤ place → count_at counts place ≡ count_at old_counts place

pub doubling_none : (counts : List ℕ) → IsDoubling counts counts 0
doubling_none counts = record {
  each = refl;
  first = λ place below. absurd (omega (arith, below));
  rest = λ place past. refl;
}

pub doubling_more : (old_counts counts : List ℕ) (k value : ℕ) → k < length old_counts → IsDoubling old_counts counts k
    → value ≡ count_at counts k * 2 → IsDoubling old_counts (slice_set counts k value) (k + 1)
doubling_more old_counts counts k value within so_far is =
    let long = so_far.each in
    let set : count_at (slice_set counts k value) k ≡ value = get_or-set_same counts k value 0 (omega (arith, within, long)) in
    let was = so_far.rest k (omega arith) in
    record {
      each = length-set counts k value ∙ so_far.each;
      first = λ place below.
          elim (cases_eq place k) [
            | inl e ↦
                subst (λ (p : ℕ). count_at (slice_set counts k value) p ≡ 2 * count_at old_counts p) (sym e) (omega (arith, set, is, was))
            | inr apart ↦ get_or-set_other counts k place value 0 apart ∙ so_far.first place (omega (arith, below, apart))
          ];
      rest = λ place past.
          let apart : place ≢ k = λ e. omega (arith, e, past) in
          get_or-set_other counts k place value 0 apart ∙ so_far.rest place (omega (arith, past));
    }

pub doubling_all : (old_counts counts : List ℕ) (k : ℕ) → length old_counts ≤ k → IsDoubling old_counts counts k
    → counts ≡ map (λ n. 2 * n) old_counts
doubling_all old_counts counts k past all =
    let mapped = length-map old_counts (λ (n : ℕ). 2 * n) in
    same_lists _ _ (all.each ∙ sym mapped)
    (λ place d within.
    let long = all.each in
    get_or_default counts place d 0 within
    ∙ (all.first place (omega (arith, within, long, past))
    ∙ sym (get_or-map (λ (n : ℕ). 2 * n) old_counts place 0 d (omega (arith, within, long)))))
