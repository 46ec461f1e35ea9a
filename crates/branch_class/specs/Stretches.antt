-- The class of a range by the stretches of its ends.
use Rattle.std.specs.Prelude.{ℕ, nat_eq, Option, None, Some, if◌then◌else◌}
use Rattle.report_model.specs.declared.class.RangeClass.{RangeClass}
use Rattle.report_model.specs.declared.class.RangeClass.TheVariants.{Ran, RangeOutside, Crossing}

-- A range that does not end before it begins ran where its ends lie in one stretch.
abbrev pub class_of_stretches : Option ℕ → Option ℕ → RangeClass
class_of_stretches None last = RangeOutside
class_of_stretches (Some first) None = RangeOutside
class_of_stretches (Some first) (Some last) = if nat_eq first last then Ran else Crossing
