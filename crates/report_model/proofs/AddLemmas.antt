-- Classes add up, one by one.
use Rattle.std.proofs.Common.{◌≡◌, ℕ, ◌+◌, Bool, true, false, cond, List, [], ◌∷◌, refl, arith}
use Rattle.std.specs.Prelude.{filter, sum_by}
use Rattle.std.proofs.lemmas.List.Sums.{sum_by-cons}
use Rattle.report_model.specs.declared.class.Class.{Class}
use Rattle.report_model.specs.declared.class.Class.TheVariants.{Entry, Inside, Unmapped}
use Rattle.report_model.specs.declared.class.RangeClass.{RangeClass}
use Rattle.report_model.specs.declared.class.RangeClass.TheVariants.{Ran, Reversed, RangeOutside, Crossing}
use Rattle.report_model.specs.declared.class.Reason.TheVariants.{FromOutside, FromNameless, FromNoLine, ToOutside, ToNameless}
use Rattle.report_model.specs.Branches.{is_entry, is_inside, is_unmapped}
use Rattle.report_model.specs.ClassLaws.{BranchesAddUp, RangesAddUp, times_where}
use Rattle.report_model.specs.Ranges.{is_class}

times-cons : {C : Type 0} (is : C → Bool) (c : C) (n : ℕ) (counted : List (C × ℕ)) → times_where is ((c, n) ∷ counted) ≡ cond (is c) n 0 + times_where is counted
times-cons {C} is c n counted = by_test (is c)
  where
    by_test : (t : Bool) → sum_by (λ (x : C × ℕ). x.1) (cond t ((c, n) ∷ filter (λ (x : C × ℕ). is x.0) counted) (filter (λ (x : C × ℕ). is x.0) counted)) ≡ cond t n 0 + times_where is counted
    by_test true = sum_by-cons (λ (x : C × ℕ). x.1) (c, n) (filter (λ (x : C × ℕ). is x.0) counted)
    by_test false = omega arith

of_one_class : (c : Class) (n : ℕ)
    → cond (is_entry c) n 0 + cond (is_inside c) n 0
    + cond (is_unmapped FromOutside c) n 0 + cond (is_unmapped FromNameless c) n 0
    + cond (is_unmapped FromNoLine c) n 0 + cond (is_unmapped ToOutside c) n 0
    + cond (is_unmapped ToNameless c) n 0
    ≡ n
of_one_class (Entry name) n = omega arith
of_one_class Inside n = omega arith
of_one_class (Unmapped FromOutside) n = omega arith
of_one_class (Unmapped FromNameless) n = omega arith
of_one_class (Unmapped FromNoLine) n = omega arith
of_one_class (Unmapped ToOutside) n = omega arith
of_one_class (Unmapped ToNameless) n = omega arith

pub branches_add_up : BranchesAddUp
branches_add_up [] = refl
branches_add_up ((c, n) ∷ counted) =
    omega (
      arith,
      of_one_class c n,
      branches_add_up counted,
      times-cons is_entry c n counted,
      times-cons is_inside c n counted,
      times-cons (is_unmapped FromOutside) c n counted,
      times-cons (is_unmapped FromNameless) c n counted,
      times-cons (is_unmapped FromNoLine) c n counted,
      times-cons (is_unmapped ToOutside) c n counted,
      times-cons (is_unmapped ToNameless) c n counted,
      sum_by-cons (λ (x : Class × ℕ). x.1) (c, n) counted,
    )

of_one_range_class : (c : RangeClass) (n : ℕ) → cond (is_class Ran c) n 0 + cond (is_class Reversed c) n 0 + cond (is_class RangeOutside c) n 0 + cond (is_class Crossing c) n 0 ≡ n
of_one_range_class Ran n = omega arith
of_one_range_class Reversed n = omega arith
of_one_range_class RangeOutside n = omega arith
of_one_range_class Crossing n = omega arith

pub ranges_add_up : RangesAddUp
ranges_add_up [] = refl
ranges_add_up ((c, n) ∷ counted) =
    omega (
      arith,
      of_one_range_class c n,
      ranges_add_up counted,
      times-cons (is_class Ran) c n counted,
      times-cons (is_class Reversed) c n counted,
      times-cons (is_class RangeOutside) c n counted,
      times-cons (is_class Crossing) c n counted,
      sum_by-cons (λ (x : RangeClass × ℕ). x.1) (c, n) counted,
    )
