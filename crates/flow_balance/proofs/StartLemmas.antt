-- The loop that sets the counts to start from.
use Rattle.std.proofs.Common.{◌≡◌, ◌≢◌, ℕ, zero, suc, ◌+◌, ◌*◌, ◌^◌, ◌<◌, ◌≤◌, ◌==◌, Bool, true, false, List, [], ◌∷◌, length, get_or, replicate, inl, inr, refl, arith, ap, sym, ◌∙◌, subst}
use Rattle.std.specs.Prelude.{slice_set, ℤ, pos, max}
use Rattle.std.proofs.lemmas.Bool.{cases_eq, cases_lt}
use Rattle.std.proofs.lemmas.Int.{ints}
use Rattle.std.proofs.lemmas.List.{get_or-replicate, get_or_past, get_or-set_same, get_or-set_other, length-replicate, length-set}
use Rattle.std.proofs.lemmas.List.Folds.{sum_by-replicate}
use Rattle.std.proofs.lemmas.List.Sums.{get_or-le-sum_by}
use Rattle.flow_model.specs.declared.arc.Arc.{Arc}
use Rattle.flow_model.specs.Circulation.{sum_where}
use Rattle.flow_model.specs.Network.{Network, arcs_of, free_arc}
use Rattle.flow_model.specs.Sound.{IsNet, IsLimitedArc}
use Rattle.flow_model.proofs.LimitLemmas.{nets_are_limited}
use Rattle.residual_model.specs.Residual.{starting}
use Rattle.residual_model.proofs.PushLemmas.{capped_less}
use Rattle.path_search.specs.Ground.{arc_at, count_at, price_at, sides_of}
use Rattle.path_search.proofs.PathLemmas.{when, sum_set}
use Rattle.flow_balance.specs.Excess.{AreExcess, surplus_of, lack_of, surplus, lack, transferred}
use Rattle.flow_balance.specs.State.{IsStart}
use Rattle.flow_balance.proofs.ExcessLemmas.{transferred_at, transferred-length, transferred_even}

-- the counts of so many arcs are set
pub record IsStarting (net : Network) (counts : List ℕ) (excess : List ℤ) (k : ℕ) : Type 0 where
  pub counted : length counts ≡ length (arcs_of net)
  pub told : length excess ≡ sides_of net
  pub starts : (place : ℕ) → place < k → count_at counts place ≡ starting (arc_at (arcs_of net) place)
  pub rest : (place : ℕ) → k ≤ place → count_at counts place ≡ 0
  pub are_excess : AreExcess (arcs_of net) counts excess
  pub even : surplus excess ≡ lack excess
  pub few : (most : ℕ) → ((place : ℕ) → place < length (arcs_of net) → starting (arc_at (arcs_of net) place) ≤ most) → surplus excess ≤ k * most

at_replicate : {A : Type 0} (n k : ℕ) (a : A) → get_or (replicate n a) k a ≡ a
at_replicate n k a =
    elim (cases_lt k n) [
      | inl within ↦ get_or-replicate n k a a within
      | inr past ↦ get_or_past (replicate n a) k a (let long = length-replicate n a in omega (arith, long, past))
    ]

when_zero : (b : Bool) → when b 0 ≡ 0
when_zero true = refl
when_zero false = refl

sum_zeros : (p : Arc → Bool) (arcs : List Arc) (n : ℕ) → sum_where p arcs (replicate n 0) ≡ 0
sum_zeros p [] n = refl
sum_zeros p (arc ∷ arcs) zero = refl
sum_zeros p (arc ∷ arcs) (suc n) = let more = sum_zeros p arcs n in let here = when_zero (p arc) in omega (arith, more, here)

pub starting_none : (net : Network) (counts : List ℕ) (excess : List ℤ) → counts ≡ replicate (length (arcs_of net)) 0
    → excess ≡ replicate (sides_of net) (pos 0) → IsStarting net counts excess 0
starting_none net counts excess zeros none =
    let n = length (arcs_of net) in
    let sides = sides_of net in
    let begun : IsStarting net (replicate n 0) (replicate sides (pos 0)) 0 = record {
      counted = length-replicate n 0;
      told = length-replicate sides (pos 0);
      starts = λ place below. absurd (omega (arith, below));
      rest = λ place past. at_replicate n place 0;
      are_excess = λ node.
          let into = sum_zeros (λ arc. arc.head == node) (arcs_of net) n in
          let out = sum_zeros (λ arc. arc.tail == node) (arcs_of net) n in
          let here = at_replicate sides node (pos 0) in
          omega (arith, ints, into, out, here);
      even =
          let a = sum_by-replicate surplus_of sides (pos 0) in
          let b = sum_by-replicate lack_of sides (pos 0) in
          omega (arith, a, b);
      few = λ most all. let a = sum_by-replicate surplus_of sides (pos 0) in omega (arith, a);
    } in
    subst (λ (list : List ℕ). IsStarting net list excess 0) (sym zeros)
    (subst (λ (list : List ℤ). IsStarting net (replicate n 0) list 0) (sym none) begun)

pub starting_small : (count : ℕ) (arc : Arc) → IsLimitedArc count arc → starting arc < 2 ^ 44
starting_small count arc limited =
    let most = capped_less arc.upper (max arc.weight arc.lower) in
    let light = limited.light in
    let small = limited.small in
    omega (arith, most, light, small)

-- what is known of the arc at a place
pub record IsArcAt (net : Network) (k : ℕ) : Type 0 where
  pub starts : (arc_at (arcs_of net) k).tail < sides_of net
  pub leads : (arc_at (arcs_of net) k).head < sides_of net
  pub small : starting (arc_at (arcs_of net) k) < 2 ^ 44

pub arc_is : (net : Network) (k : ℕ) → IsNet net → k < length (arcs_of net) → IsArcAt net k
arc_is net k is within =
    let limited = (nets_are_limited net is).arcs k (free_arc 0 0 0) within in
    record {
      starts = let tail = limited.starts in omega (arith, tail);
      leads = let head = limited.goes in omega (arith, head);
      small = starting_small (length net.blocks) (arc_at (arcs_of net) k) limited;
    }

-- no side leaves its type
pub room_for : (net : Network) (counts : List ℕ) (excess : List ℤ) (k : ℕ) → IsNet net → k < length (arcs_of net) → IsStarting net counts excess k
    → (side : ℕ) → side < length excess
    → (surplus_of (price_at excess side) + starting (arc_at (arcs_of net) k) < 2 ^ 63)
    × (lack_of (price_at excess side) + starting (arc_at (arcs_of net) k) < 2 ^ 63)
room_for net counts excess k is within so_far side inside =
    let small = (arc_is net k is within).small in
    let few = so_far.few (2 ^ 44) (λ place inside. let here = (arc_is net place is inside).small in omega (arith, here)) in
    let even = so_far.even in
    let few_arcs = (nets_are_limited net is).few in
    let has = get_or-le-sum_by surplus_of excess side (pos 0) inside in
    let lacks = get_or-le-sum_by lack_of excess side (pos 0) inside in
    (omega (arith, small, few, few_arcs, has, within), omega (arith, small, few, few_arcs, lacks, even, within))

pub starting_more : (net : Network) (counts : List ℕ) (excess : List ℤ) (k n : ℕ) → IsNet net → k < length (arcs_of net)
    → n ≡ starting (arc_at (arcs_of net) k) → IsStarting net counts excess k
    → IsStarting net (slice_set counts k n) (transferred excess (arc_at (arcs_of net) k).tail (arc_at (arcs_of net) k).head n) (k + 1)
starting_more net counts excess k n is within same so_far =
    let arc = arc_at (arcs_of net) k in
    let here = arc_is net k is within in
    let tail : arc.tail < length excess = let bound = here.starts in let told = so_far.told in omega (arith, bound, told) in
    let head : arc.head < length excess = let bound = here.leads in let told = so_far.told in omega (arith, bound, told) in
    let was = so_far.rest k (omega arith) in
    let evens = transferred_even excess arc.tail arc.head n tail head so_far.even in
    record {
      counted = length-set counts k n ∙ so_far.counted;
      told = transferred-length excess arc.tail arc.head n ∙ so_far.told;
      starts = λ place below.
          elim (cases_eq place k) [
            | inl e ↦
                let set : count_at (slice_set counts k n) k ≡ n = get_or-set_same counts k n 0 (let long = so_far.counted in omega (arith, within, long)) in
                subst (λ (p : ℕ). count_at (slice_set counts k n) p ≡ starting (arc_at (arcs_of net) p)) (sym e) (set ∙ same)
            | inr apart ↦ get_or-set_other counts k place n 0 apart ∙ so_far.starts place (omega (arith, below, apart))
          ];
      rest = λ place past.
          let apart : place ≢ k = λ e. omega (arith, e, past) in
          get_or-set_other counts k place n 0 apart ∙ so_far.rest place (omega (arith, past));
      are_excess = λ node.
          let into = sum_set (λ other. other.head == node) (arcs_of net) counts k n so_far.counted within in
          let out = sum_set (λ other. other.tail == node) (arcs_of net) counts k n so_far.counted within in
          let into_none = ap (λ m. when (arc.head == node) m) was ∙ when_zero (arc.head == node) in
          let out_none = ap (λ m. when (arc.tail == node) m) was ∙ when_zero (arc.tail == node) in
          let at = transferred_at excess arc.tail arc.head n node tail head in
          let before = so_far.are_excess node in
          omega (arith, ints, into, out, into_none, out_none, at, before);
      even = evens.0;
      few = λ most all.
          let more = evens.1 in
          let few = so_far.few most all in
          let small = all k within in
          let next : (k + 1) * most ≡ k * most + most = omega arith in
          omega (arith, more, few, small, same, next);
    }

pub starting_all : (net : Network) (counts : List ℕ) (excess : List ℤ) (k : ℕ) → length (arcs_of net) ≤ k → k ≤ length (arcs_of net)
    → IsNet net → IsStarting net counts excess k → IsStart net counts excess
starting_all net counts excess k past most is so_far = record {
  of_a_function = is;
  counted = so_far.counted;
  told = so_far.told;
  starts = λ place inside. so_far.starts place (omega (arith, inside, past));
  are_excess = so_far.are_excess;
  even = so_far.even;
  few = λ top all.
      let few = so_far.few top all in
      let e : length (arcs_of net) ≡ k = omega (arith, past, most) in
      subst (λ (n : ℕ). surplus excess ≤ n * top) (sym e) few;
}
