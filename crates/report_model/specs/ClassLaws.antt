-- What follows from the definitions.
use Rattle.std.specs.Prelude.{◌≡◌, ◌↔◌, ℕ, ◌+◌, ◌≤◌, Bool, Option, IsSome, List, filter, sum_by}
use Rattle.report_model.specs.declared.class.Class.{Class}
use Rattle.report_model.specs.declared.class.RangeClass.{RangeClass}
use Rattle.report_model.specs.declared.class.RangeClass.TheVariants.{Ran, Reversed, RangeOutside, Crossing}
use Rattle.report_model.specs.declared.class.Reason.TheVariants.{FromOutside, FromNameless, FromNoLine, ToOutside, ToNameless}
use Rattle.report_model.specs.Branches.{is_entry, is_inside, is_unmapped}
use Rattle.report_model.specs.Ranges.{is_class, range_class}

-- A range ran exactly where it begins in a function that holds all addresses up to its last.
abbrev pub RanIsOneFunction : Type 0
RanIsOneFunction =
    (function : ℕ → Option ℕ) (to from : ℕ)
    → (range_class function to from ≡ Ran)
    ↔ ((to ≤ from) × IsSome (function to) × ((a : ℕ) → to ≤ a → a ≤ from → function a ≡ function to))

-- How often those stand that are of a class, where each stands a number of times.
abbrev pub times_where : {C : Type 0} → (C → Bool) → List (C × ℕ) → ℕ
times_where is counted = sum_by (λ (c, times). times) (filter (λ (c, times). is c) counted)

-- All branches together.
abbrev pub BranchesAddUp : Type 0
BranchesAddUp =
    (counted : List (Class × ℕ))
    → times_where is_entry counted + times_where is_inside counted
    + times_where (is_unmapped FromOutside) counted + times_where (is_unmapped FromNameless) counted
    + times_where (is_unmapped FromNoLine) counted + times_where (is_unmapped ToOutside) counted
    + times_where (is_unmapped ToNameless) counted
    ≡ sum_by (λ (c, times). times) counted

-- All ranges together.
abbrev pub RangesAddUp : Type 0
RangesAddUp =
    (counted : List (RangeClass × ℕ))
    → times_where (is_class Ran) counted + times_where (is_class Reversed) counted
    + times_where (is_class RangeOutside) counted + times_where (is_class Crossing) counted
    ≡ sum_by (λ (c, times). times) counted
