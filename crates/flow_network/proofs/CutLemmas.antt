-- The sums of a cut, arc by arc.
use Rattle.std.proofs.Common.{◌≡◌, ℕ, ◌+◌, ◌*◌, ◌^◌, ◌<◌, ◌≤◌, Bool, true, false, List, length, get_or, drop, Option, None, Some, if◌then◌else◌, refl, arith, ap, sym, ◌∙◌}
use Rattle.std.specs.List.{All}
use Rattle.std.proofs.lemmas.List.{drop_more, drop_all}
use Rattle.std.proofs.lemmas.List.Elements.{All-get_or}
use Rattle.flow_model.specs.declared.arc.Arc.{Arc}
use Rattle.flow_model.specs.Cut.{enters, leaves, least_in, most_out, both_bounds}
use Rattle.flow_model.specs.Sound.{IsSoundUpper, IsLimitedArc}

-- the sums over the first i arcs, and what is left
pub record SummedTo (set : ℕ → Bool) (arcs : List Arc) (i least most : ℕ) : Type 0 where
  pub least_rest : least + least_in set (drop i arcs) ≡ least_in set arcs
  pub most_rest : both_bounds (Some most) (most_out set (drop i arcs)) ≡ most_out set arcs
  pub least_small : least ≤ i * 2 ^ 44
  pub most_small : most ≤ i * 2 ^ 44

none_before : (rest : Option ℕ) → both_bounds (Some 0) rest ≡ rest
none_before None = refl
none_before (Some n) = ap Some (omega arith)

pub summed_none : (set : ℕ → Bool) (arcs : List Arc) → SummedTo set arcs 0 0 0
summed_none set arcs = record {
  least_rest = omega arith;
  most_rest = none_before (most_out set arcs);
  least_small = omega arith;
  most_small = omega arith;
}

both_more : (most m : ℕ) (rest : Option ℕ) → both_bounds (Some (most + m)) rest ≡ both_bounds (Some most) (both_bounds (Some m) rest)
both_more most m None = refl
both_more most m (Some n) = ap Some (omega arith)

small_when : (b : Bool) (lower : ℕ) → lower < 2 ^ 44 → (if b then lower else 0) ≤ 2 ^ 44
small_when true lower small = omega (arith, small)
small_when false lower small = omega arith

small_upper : (b : Bool) (lower : ℕ) (upper : Option ℕ) (m : ℕ) → IsSoundUpper lower upper → (if b then upper else Some 0) ≡ Some m → m ≤ 2 ^ 44
small_upper true lower None m sound is = absurd (cc)
small_upper true lower (Some upper) m sound is = let same : upper ≡ m = cc in omega (arith, same, sound)
small_upper false lower upper m sound is = let same : 0 ≡ m = cc in omega (arith, same)

pub summed_more : (count : ℕ) (set : ℕ → Bool) (arcs : List Arc) (i least most low m : ℕ) (d : Arc) → All (IsLimitedArc count) arcs → i < length arcs
    → SummedTo set arcs i least most
    → low ≡ (if enters set (get_or arcs i d) then (get_or arcs i d).lower else 0)
    → (if leaves set (get_or arcs i d) then (get_or arcs i d).upper else Some 0) ≡ Some m
    → SummedTo set arcs (i + 1) (least + low) (most + m)
summed_more count set arcs i least most low m d limited within summed brought is =
    let arc = get_or arcs i d in
    let rest = drop (i + 1) arcs in
    let limit = All-get_or (IsLimitedArc count) arcs i d within limited in
    let here = drop_more arcs i d within in
    let sum : least_in set (drop i arcs) ≡ (if enters set arc then arc.lower else 0) + least_in set rest = ap (least_in set) here in
    let out : most_out set (drop i arcs) ≡ both_bounds (if leaves set arc then arc.upper else Some 0) (most_out set rest) = ap (most_out set) here in
    let few = small_when (enters set arc) arc.lower limit.small in
    let small = small_upper (leaves set arc) arc.lower arc.upper m limit.ordered is in
    let a = summed.least_rest in
    let b = summed.least_small in
    let c = summed.most_small in
    record {
      least_rest = omega (arith, sum, a, brought);
      most_rest = both_more most m (most_out set rest)
          ∙ (ap (λ (o : Option ℕ). both_bounds (Some most) (both_bounds o (most_out set rest))) (sym is)
          ∙ (ap (λ (o : Option ℕ). both_bounds (Some most) o) (sym out) ∙ summed.most_rest));
      least_small = omega (arith, few, b, brought);
      most_small = omega (arith, small, c);
    }

pub summed_stop : (set : ℕ → Bool) (arcs : List Arc) (i least most : ℕ) (d : Arc) → i < length arcs → SummedTo set arcs i least most
    → (if leaves set (get_or arcs i d) then (get_or arcs i d).upper else Some 0) ≡ None → None ≡ most_out set arcs
summed_stop set arcs i least most d within summed is =
    let arc = get_or arcs i d in
    let rest = drop (i + 1) arcs in
    let out : most_out set (drop i arcs) ≡ both_bounds (if leaves set arc then arc.upper else Some 0) (most_out set rest)
    = ap (most_out set) (drop_more arcs i d within) in
    ap (λ (o : Option ℕ). both_bounds (Some most) (both_bounds o (most_out set rest))) (sym is)
    ∙ (ap (λ (o : Option ℕ). both_bounds (Some most) o) (sym out) ∙ summed.most_rest)

pub summed_all : (set : ℕ → Bool) (arcs : List Arc) (i least most : ℕ) → length arcs ≤ i → SummedTo set arcs i least most
    → (least ≡ least_in set arcs) × (Some most ≡ most_out set arcs)
summed_all set arcs i least most past summed =
    let end = drop_all i arcs past in
    let low : least + 0 ≡ least_in set arcs = rw end at summed.least_rest in
    let high : Some (most + 0) ≡ most_out set arcs = rw end at summed.most_rest in
    let same : most ≡ most + 0 = omega arith in
    (omega (arith, low), ap Some same ∙ high)
