-- Networks in coarser units.
use Rattle.std.proofs.Common.{◌≡◌, ℕ, zero, suc, ◌+◌, ◌-◌, ◌*◌, ◌/◌, ◌^◌, ◌<◌, ◌≤◌, ◌==◌, Bool, true, false, List, [], ◌∷◌, ◌++◌, map, length, Option, None, Some, if◌then◌else◌, inl, inr, refl, arith, ap, sym, ◌∙◌}
use Rattle.std.specs.Option.{option_map}
use Rattle.std.proofs.lemmas.Nat.{pow_pos, shr-shr}
use Rattle.std.specs.Prelude.{min, ◌%◌}
use Rattle.std.specs.Int.{div_ceil}
use Rattle.std.proofs.lemmas.Bool.{cases_eq}
use Rattle.std.proofs.Math.Nat.{add-div_right, div-add-mod, div-eq_of_lt, mod-lt, mul-add-div, pow-suc}
use Rattle.flow_model.specs.declared.arc.Arc.{Arc}
use Rattle.flow_model.specs.Network.{Network}
use Rattle.scaling_model.specs.Coarse.{whole_units, begun_units, coarse_arc, coarse}
use Rattle.scaling_model.specs.Laws.{half_up, halved_arc, halved, ShiftsHalve}

-- ---- units of twice the size

whole_more : (shift n : ℕ) → whole_units (shift + 1) n ≡ whole_units shift n / 2
whole_more shift n = sym (shr-shr n shift 1)

-- a number rounded up is as many units as it and one unit but 1 has whole
begun_whole : (n unit : ℕ) → 0 < unit → div_ceil n unit ≡ (n + (unit - 1)) / unit
begun_whole n unit some =
    let q = n / unit in
    let r = n % unit in
    let split = div-add-mod n unit in
    let below : r < unit = mod-lt n some in
    elim (cases_eq r 0) [
      | inl none ↦
          let same : n + (unit - 1) ≡ unit * q + (unit - 1) = omega (arith, split, none) in
          let whole = mul-add-div some q (unit - 1) in
          let small : (unit - 1) / unit ≡ 0 = div-eq_of_lt (omega (arith, some)) in
          let one : min 1 r ≡ 0 = omega (arith, none) in
          ap (λ (m : ℕ). q + m) one ∙ sym (ap (λ (m : ℕ). m / unit) same ∙ (whole ∙ ap (λ (m : ℕ). q + m) small))
      | inr some_rest ↦
          let same : n + (unit - 1) ≡ unit * q + ((r - 1) + unit) = omega (arith, split, some_rest, some) in
          let whole = mul-add-div some q ((r - 1) + unit) in
          let next : ((r - 1) + unit) / unit ≡ (r - 1) / unit + 1 = add-div_right (r - 1) some in
          let small : (r - 1) / unit ≡ 0 = div-eq_of_lt (omega (arith, below)) in
          let one : min 1 r ≡ 1 = omega (arith, some_rest) in
          let last : ((r - 1) + unit) / unit ≡ 1 = next ∙ ap (λ (m : ℕ). m + 1) small in
          ap (λ (m : ℕ). q + m) one ∙ sym (ap (λ (m : ℕ). m / unit) same ∙ (whole ∙ ap (λ (m : ℕ). q + m) last))
    ]

begun_more : (shift n : ℕ) → begun_units (shift + 1) n ≡ half_up (begun_units shift n)
begun_more shift n =
    let unit = 2 ^ shift in
    let some = pow_pos shift in
    let a = n + (unit - 1) in
    let one : a / unit + 1 ≡ (a + unit) / unit = sym (add-div_right a some) in
    let halved_again : (a + unit) / unit / 2 ≡ (a + unit) / 2 ^ (shift + 1) = shr-shr (a + unit) shift 1 in
    let next : shift + 1 ≡ suc shift = omega arith in
    let doubled : 2 ^ (shift + 1) ≡ unit * 2 = ap (λ (k : ℕ). 2 ^ k) next ∙ pow-suc 2 shift in
    let same : n + (2 ^ (shift + 1) - 1) ≡ a + unit = omega (arith, doubled, some) in
    begun_whole n (2 ^ (shift + 1)) (pow_pos (shift + 1))
    ∙ (ap (λ (m : ℕ). m / 2 ^ (shift + 1)) same
    ∙ (sym halved_again ∙ (ap (λ (m : ℕ). m / 2) (sym one) ∙ ap half_up (sym (begun_whole n unit some)))))

upper_more : (shift : ℕ) (upper : Option ℕ) → option_map (begun_units (shift + 1)) upper ≡ option_map half_up (option_map (begun_units shift) upper)
upper_more shift None = refl
upper_more shift (Some n) = ap Some (begun_more shift n)

arc_more : (shift : ℕ) (arc : Arc) → coarse_arc (shift + 1) arc ≡ halved_arc (coarse_arc shift arc)
arc_more shift arc = rw (whole_more shift arc.lower, upper_more shift arc.upper, begun_more shift arc.weight) refl

arcs_more : (shift : ℕ) (arcs : List Arc) → map (coarse_arc (shift + 1)) arcs ≡ map halved_arc (map (coarse_arc shift) arcs)
arcs_more shift [] = refl
arcs_more shift (arc ∷ arcs) = rw (arc_more shift arc, arcs_more shift arcs) refl

-- ---- units of 1

whole_one : (n : ℕ) → whole_units 0 n ≡ n
whole_one n = omega arith

begun_one : (n : ℕ) → begun_units 0 n ≡ n
begun_one n = begun_whole n 1 (omega arith) ∙ omega arith

upper_one : (upper : Option ℕ) → option_map (begun_units 0) upper ≡ upper
upper_one None = refl
upper_one (Some n) = ap Some (begun_one n)

arc_one : (arc : Arc) → coarse_arc 0 arc ≡ arc
arc_one arc = rw (whole_one arc.lower, upper_one arc.upper, begun_one arc.weight) refl

arcs_one : (arcs : List Arc) → map (coarse_arc 0) arcs ≡ arcs
arcs_one [] = refl
arcs_one (arc ∷ arcs) = rw (arc_one arc, arcs_one arcs) refl

pub shifts_halve : ShiftsHalve
shifts_halve net = (
  rw (arcs_one net.blocks, arcs_one net.edges) refl,
  λ shift. rw (arcs_more shift net.blocks, arcs_more shift net.edges) refl,
)
