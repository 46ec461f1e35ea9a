-- What rows with their classes say of calls, entries and ranges that ran.
use Rattle.std.specs.Prelude.{ℕ, Option, None, Some}
use Rattle.key_types.specs.declared.ids.KeyId.{KeyId}
use Rattle.key_types.specs.declared.places.Where.{Where}
use Rattle.key_types.specs.declared.places.Where.TheVariants.{Outside, Nameless, NoLine, At}
use Rattle.report_model.specs.declared.class.Class.{Class}
use Rattle.report_model.specs.declared.class.Class.TheVariants.{Entry, Inside, Unmapped}
use Rattle.report_model.specs.declared.class.RangeClass.{RangeClass}
use Rattle.report_model.specs.declared.class.RangeClass.TheVariants.{Ran, Reversed, RangeOutside, Crossing}
use Rattle.profile_model.specs.declared.ran_range.RanRange.{RanRange}
use Rattle.profile_report.specs.declared.classed.Classed.{Classed}
use Rattle.profile_tree.specs.declared.head.Head.{Head}
use Rattle.profile_lists.specs.declared.pairs.Call.{Call}

-- A branch of a class from a key is a call where it enters a function.
abbrev pub call_from_key : KeyId → Class → ℕ → Option Call
call_from_key key (Entry callee) times = Some (record { key = key; callee = callee; times = times })
call_from_key key Inside times = None
call_from_key key (Unmapped reason) times = None

-- From a place without a key there is no call.
abbrev pub call_from : Where → Class → ℕ → Option Call
call_from Outside class times = None
call_from Nameless class times = None
call_from NoLine class times = None
call_from (At key) class times = call_from_key key class times

abbrev pub call_in : (ℕ → Where) → Classed Class → Option Call
call_in place branch = call_from (place branch.row.from) branch.class branch.row.times

-- A branch that enters a function is an entry of it.
abbrev pub head_by : Class → ℕ → Option Head
head_by (Entry name) times = Some (record { name = name; times = times })
head_by Inside times = None
head_by (Unmapped reason) times = None

abbrev pub head_in : Classed Class → Option Head
head_in branch = head_by branch.class branch.row.times

-- A sampled range of a class, where it ran.
abbrev pub ran_by : RangeClass → ℕ → ℕ → ℕ → Option RanRange
ran_by Ran lo hi times = Some (record { lo = lo; hi = hi; times = times })
ran_by Reversed lo hi times = None
ran_by RangeOutside lo hi times = None
ran_by Crossing lo hi times = None

abbrev pub ran_in : Classed RangeClass → Option RanRange
ran_in range = ran_by range.class range.row.from range.row.to range.row.times
