-- What a sampled range is, by the functions of its addresses.
use Rattle.std.specs.Prelude.{ℕ, suc, ◌-◌, Bool, true, false, ◌||◌, nat_eq, nat_lt, Option, None, Some, is_none, if◌then◌else◌}
use Rattle.std.specs.List.{list_all, range_with_len}
use Rattle.report_model.specs.declared.class.RangeClass.{RangeClass}
use Rattle.report_model.specs.declared.class.RangeClass.TheVariants.{Ran, Reversed, RangeOutside, Crossing}

-- Whether two addresses have one function, told by their numbers, or none both.
abbrev pub same_function : Option ℕ → Option ℕ → Bool
same_function None None = true
same_function None (Some other) = false
same_function (Some one) None = false
same_function (Some one) (Some other) = nat_eq one other

-- Whether all addresses from the first to the last, both held, have the function of the first.
abbrev pub in_one_function : (ℕ → Option ℕ) → ℕ → ℕ → Bool
in_one_function function first last =
    list_all (λ address. same_function (function first) (function address)) (range_with_len first (suc last - first))

-- The class of a range, from the target of a branch to the source of the next, by the function of each address.
abbrev pub range_class : (ℕ → Option ℕ) → ℕ → ℕ → RangeClass
range_class function to from =
    if nat_lt from to then Reversed
    else (if is_none (function to) || is_none (function from) then RangeOutside
    else (if in_one_function function to from then Ran else Crossing))

-- Whether two classes are one.
abbrev pub is_class : RangeClass → RangeClass → Bool
is_class Ran Ran = true
is_class Reversed Reversed = true
is_class RangeOutside RangeOutside = true
is_class Crossing Crossing = true
is_class class other = false
