-- What a branch is, by the places of its ends and by what it enters.
use Rattle.std.specs.Prelude.{ℕ, Bool, true, false, Option, None, Some}
use Rattle.key_types.specs.declared.ids.NameId.{NameId}
use Rattle.key_types.specs.declared.places.Where.{Where}
use Rattle.key_types.specs.declared.places.Where.TheVariants.{Outside, Nameless, NoLine, At}
use Rattle.report_model.specs.declared.class.Class.{Class}
use Rattle.report_model.specs.declared.class.Class.TheVariants.{Entry, Inside, Unmapped}
use Rattle.report_model.specs.declared.class.Reason.{Reason}
use Rattle.report_model.specs.declared.class.Reason.TheVariants.{FromOutside, FromNameless, FromNoLine, ToOutside, ToNameless}

-- The first reason why a branch cannot be told of places: what that of its source lacks, or else that of its target.
-- A target needs no line.
abbrev pub reason_of : Where → Where → Option Reason
reason_of Outside to = Some FromOutside
reason_of Nameless to = Some FromNameless
reason_of NoLine to = Some FromNoLine
reason_of (At key) Outside = Some ToOutside
reason_of (At key) Nameless = Some ToNameless
reason_of (At key) NoLine = None
reason_of (At key) (At other) = None

-- A branch with such a reason is unmapped. Without one it is inside.
abbrev pub class_by_reason : Option Reason → Class
class_by_reason None = Inside
class_by_reason (Some reason) = Unmapped reason

-- A branch that enters a named function is an entry, wherever it comes from.
abbrev pub class_by : Option NameId → Where → Where → Class
class_by (Some name) from to = Entry name
class_by None from to = class_by_reason (reason_of from to)

-- The class of a branch, by the place of each address and the name of the function that is entered there.
abbrev pub branch_class : (ℕ → Where) → (ℕ → Option NameId) → ℕ → ℕ → Class
branch_class place entry_name from to = class_by (entry_name to) (place from) (place to)

-- Whether a class is that of an entry.
abbrev pub is_entry : Class → Bool
is_entry (Entry name) = true
is_entry Inside = false
is_entry (Unmapped reason) = false

-- Whether it is that of a branch inside.
abbrev pub is_inside : Class → Bool
is_inside (Entry name) = false
is_inside Inside = true
is_inside (Unmapped reason) = false

-- Whether two reasons are one.
abbrev pub is_reason : Reason → Reason → Bool
is_reason FromOutside FromOutside = true
is_reason FromNameless FromNameless = true
is_reason FromNoLine FromNoLine = true
is_reason ToOutside ToOutside = true
is_reason ToNameless ToNameless = true
is_reason reason other = false

-- Whether a class is that of a branch unmapped for a reason.
abbrev pub is_unmapped : Reason → Class → Bool
is_unmapped reason (Entry name) = false
is_unmapped reason Inside = false
is_unmapped reason (Unmapped other) = is_reason reason other
