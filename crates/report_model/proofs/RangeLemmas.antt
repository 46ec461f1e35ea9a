-- Ranges that lie in one function.
use Rattle.std.proofs.Common.{◌≡◌, ℕ, suc, ◌+◌, ◌-◌, ◌<◌, ◌≤◌, Bool, true, false, Option, None, Some, refl, sym, ap, ◌∙◌, subst, arith, inl, inr, get_or, eqb-true, eq-eqb, lt-ltb}
use Rattle.std.specs.Prelude.{IsSome, is_none, ◌||◌, if◌then◌else◌}
use Rattle.std.specs.List.{range_with_len}
use Rattle.std.proofs.lemmas.Bool.{cases_lt, le-ltb}
use Rattle.std.proofs.lemmas.List.FromFn.{get_or-range_with_len, length-range_with_len}
use Rattle.std.proofs.lemmas.List.Sums.{AllPass-from_list_all, list_all-from_AllPass}
use Rattle.report_model.specs.declared.class.RangeClass.{RangeClass}
use Rattle.report_model.specs.declared.class.RangeClass.TheVariants.{Ran, Reversed, RangeOutside, Crossing}
use Rattle.report_model.specs.ClassLaws.{RanIsOneFunction}
use Rattle.report_model.specs.Ranges.{in_one_function, range_class, same_function}

same-true : (o p : Option ℕ) → same_function o p ≡ true → p ≡ o
same-true None None is = refl
same-true None (Some n) is = absurd cc
same-true (Some m) None is = absurd cc
same-true (Some m) (Some n) is = ap Some (sym (eqb-true m n is))

same-refl : (o : Option ℕ) → same_function o o ≡ true
same-refl None = refl
same-refl (Some m) = eq-eqb m m refl

-- the addresses of a range have the function of the first exactly where the test says so
pub one_function : (function : ℕ → Option ℕ) (first last : ℕ) → in_one_function function first last ≡ true → (a : ℕ) → first ≤ a → a ≤ last → function a ≡ function first
one_function function first last all a from to =
    let p : ℕ → Bool = λ address. same_function (function first) (function address) in
    let n = suc last - first in
    let within : a - first < n = omega (arith, from, to) in
    let at : get_or (range_with_len first n) (a - first) 0 ≡ a = get_or-range_with_len first n (a - first) 0 within ∙ omega (arith, from) in
    same-true (function first) (function a)
    (ap p (sym at) ∙ AllPass-from_list_all p (range_with_len first n) all (a - first) 0 (omega (arith, within, length-range_with_len first n)))

pub test_one : (function : ℕ → Option ℕ) (first last : ℕ) → ((a : ℕ) → first ≤ a → a ≤ last → function a ≡ function first) → in_one_function function first last ≡ true
test_one function first last all =
    let p : ℕ → Bool = λ address. same_function (function first) (function address) in
    let n = suc last - first in
    list_all-from_AllPass p (range_with_len first n) (λ k d below.
    let within : k < n = omega (arith, below, length-range_with_len first n) in
    let at : get_or (range_with_len first n) k d ≡ first + k = get_or-range_with_len first n k d within in
    ap p at ∙ ap (same_function (function first)) (all (first + k) (omega arith) (omega (arith, within))) ∙ same-refl (function first))

-- a range that does not end before it begins, by the functions of its ends
unfoldable pub class_of_ends : Option ℕ → Option ℕ → Bool → RangeClass
class_of_ends first last one = if is_none first || is_none last then RangeOutside else (if one then Ran else Crossing)

ran_first : (o p : Option ℕ) (one : Bool) → class_of_ends o p one ≡ Ran → IsSome o × (one ≡ true)
unfolding class_of_ends
ran_first None p one is = absurd cc
ran_first (Some m) None one is = absurd cc
ran_first (Some m) (Some n) true is = (refl, refl)
ran_first (Some m) (Some n) false is = absurd cc

ran_both : (o p : Option ℕ) → IsSome o → IsSome p → class_of_ends o p true ≡ Ran
unfolding class_of_ends
ran_both None p some other = absurd cc
ran_both (Some m) None some other = absurd cc
ran_both (Some m) (Some n) some other = refl

pub class-forward : (function : ℕ → Option ℕ) (to from : ℕ) → to ≤ from → range_class function to from ≡ class_of_ends (function to) (function from) (in_one_function function to from)
unfolding class_of_ends
class-forward function to from order = rw (le-ltb from to order) refl

reversed-not_ran : (function : ℕ → Option ℕ) (to from : ℕ) → from < to → range_class function to from ≡ Ran → ⊥
reversed-not_ran function to from order is =
    let reversed : range_class function to from ≡ Reversed = rw (lt-ltb from to order) refl in
    cc

pub ran_is_one_function : RanIsOneFunction
ran_is_one_function function to from = (there, back)
  where
    there : range_class function to from ≡ Ran → (to ≤ from) × IsSome (function to) × ((a : ℕ) → to ≤ a → a ≤ from → function a ≡ function to)
    there is = elim (cases_lt from to) [
      | inl before ↦ absurd (reversed-not_ran function to from before is)
      | inr order ↦
          let parts = ran_first (function to) (function from) (in_one_function function to from) (sym (class-forward function to from order) ∙ is) in
          (order, parts.0, one_function function to from parts.1)
    ]

    back : (to ≤ from) × IsSome (function to) × ((a : ℕ) → to ≤ a → a ≤ from → function a ≡ function to) → range_class function to from ≡ Ran
    back (order, some, all) =
        class-forward function to from order
        ∙ ap (class_of_ends (function to) (function from)) (test_one function to from all)
        ∙ ran_both (function to) (function from) some (subst (λ (o : Option ℕ). IsSome o) (sym (all from order (omega arith))) some)
