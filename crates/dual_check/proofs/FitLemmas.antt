-- What one unit more and one less cost.
use Rattle.std.proofs.Common.{◌≡◌, ℕ, ◌+◌, ◌-◌, ◌<◌, ◌≤◌, arith, ap, sym, subst}
use Rattle.std.specs.Prelude.{ℤ, pos, ◌-ℤ◌, ◌≤ℤ◌, neg_ℤ, List, Bool, Option, Some, None}
use Rattle.std.specs.Option.{option_map}
use Rattle.std.proofs.lemmas.Int.{ints}
use Rattle.flow_model.specs.declared.arc.Arc.{Arc}
use Rattle.flow_model.specs.Circulation.{cost_on}
use Rattle.flow_model.specs.Cut.{IsCut, least_in, most_out}
use Rattle.flow_model.specs.Prices.{IsBelow, FitsOn}
use Rattle.residual_model.proofs.PushLemmas.{falls, rises}

pub more_above : (arc : Arc) (n : ℕ) → arc.weight ≤ n → pos (cost_on arc (n + 1)) -ℤ pos (cost_on arc n) ≡ pos arc.up
more_above arc n past = let step = rises arc.up arc.down arc.weight n past in omega (arith, ints, step)

pub more_below : (arc : Arc) (n : ℕ) → n < arc.weight → pos (cost_on arc (n + 1)) -ℤ pos (cost_on arc n) ≡ neg_ℤ (pos arc.down)
more_below arc n before = let step = falls arc.up arc.down arc.weight n before in omega (arith, ints, step)

pub less_below : (arc : Arc) (n m : ℕ) → n ≡ m + 1 → n ≤ arc.weight → pos (cost_on arc m) -ℤ pos (cost_on arc n) ≡ pos arc.down
less_below arc n m e within = let step = falls arc.up arc.down arc.weight m (omega (arith, e, within)) in rw e (omega (arith, ints, step))

pub less_above : (arc : Arc) (n m : ℕ) → n ≡ m + 1 → arc.weight < n → pos (cost_on arc m) -ℤ pos (cost_on arc n) ≡ neg_ℤ (pos arc.up)
less_above arc n m e past = let step = rises arc.up arc.down arc.weight m (omega (arith, e, past)) in rw e (omega (arith, ints, step))

-- ---- prices on one arc

pub fits_from : (price : ℕ → ℤ) (arc : Arc) (n : ℕ) (rise fall : ℤ)
    → (IsBelow arc.upper n → rise ≤ℤ (pos (cost_on arc (n + 1)) -ℤ pos (cost_on arc n)))
    → (arc.lower < n → fall ≤ℤ (pos (cost_on arc (n - 1)) -ℤ pos (cost_on arc n)))
    → rise ≡ price arc.head -ℤ price arc.tail → fall ≡ price arc.tail -ℤ price arc.head → FitsOn price arc n
fits_from price arc n rise fall more less up down = record {
  more = λ below. subst (λ (z : ℤ). z ≤ℤ (pos (cost_on arc (n + 1)) -ℤ pos (cost_on arc n))) up (more below);
  less = λ above. subst (λ (z : ℤ). z ≤ℤ (pos (cost_on arc (n - 1)) -ℤ pos (cost_on arc n))) down (less above);
}

pub more_from : (price : ℕ → ℤ) (arc : Arc) (n : ℕ) (rise : ℤ) → FitsOn price arc n → rise ≡ price arc.head -ℤ price arc.tail
    → IsBelow arc.upper n → rise ≤ℤ (pos (cost_on arc (n + 1)) -ℤ pos (cost_on arc n))
more_from price arc n rise fits up below =
    subst (λ (z : ℤ). z ≤ℤ (pos (cost_on arc (n + 1)) -ℤ pos (cost_on arc n))) (sym up) (fits.more below)

pub less_from : (price : ℕ → ℤ) (arc : Arc) (n : ℕ) (fall : ℤ) → FitsOn price arc n → fall ≡ price arc.tail -ℤ price arc.head
    → arc.lower < n → fall ≤ℤ (pos (cost_on arc (n - 1)) -ℤ pos (cost_on arc n))
less_from price arc n fall fits down above =
    subst (λ (z : ℤ). z ≤ℤ (pos (cost_on arc (n - 1)) -ℤ pos (cost_on arc n))) (sym down) (fits.less above)

-- ---- a cut, by its two sums

abbrev two : ℕ → ℕ → ℕ × ℕ
two least most = (least, most)

bounded_by : (o : Option ℕ) (least a most : ℕ) → Some (two least most) ≡ option_map (two a) o → (o ≡ Some most) × (least ≡ a)
bounded_by None least a most is = absurd (cc)
bounded_by (Some m) least a most is =
    let same : two least most ≡ two a m = cc in
    let second : most ≡ m = ap (λ (p : ℕ × ℕ). p.1) same in
    (ap Some (sym second), ap (λ (p : ℕ × ℕ). p.0) same)

pub cut_from : (set : ℕ → Bool) (arcs : List Arc) (least most : ℕ)
    → Some (two least most) ≡ option_map (two (least_in set arcs)) (most_out set arcs) → most < least → IsCut set arcs
cut_from set arcs least most is below =
    let both = bounded_by (most_out set arcs) least (least_in set arcs) most is in
    let same = both.1 in
    (most, both.0, omega (arith, below, same))
