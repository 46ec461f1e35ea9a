-- What samples say of a program.
use Rattle.std.specs.Prelude.{ℕ, ◌^◌, max, Bool, false, ◌&&◌, nat_le, List, [], ◌∷◌, map, filter, count_by, Option, None, Some}
use Rattle.std.specs.List.{filter_map, range_with_len}
use Rattle.std.specs.Option.{option_map, option_map_or}
use Rattle.report_model.specs.declared.class.Class.{Class}
use Rattle.report_model.specs.declared.class.Class.TheVariants.{Entry}
use Rattle.report_model.specs.declared.class.Reason.{Reason}
use Rattle.report_model.specs.declared.class.Reason.TheVariants.{FromOutside, FromNameless, FromNoLine, ToOutside, ToNameless}
use Rattle.report_model.specs.declared.class.RangeClass.{RangeClass}
use Rattle.report_model.specs.declared.class.RangeClass.TheVariants.{Ran}
use Rattle.report_model.specs.Branches.{class_by_reason}
use Rattle.report_model.specs.Ranges.{is_class, range_class}
use Rattle.profile_model.specs.Counts.{weighed}
use Rattle.profile_model.specs.Orders.{ordered, way_cmp}
use Rattle.profile_model.specs.Profile.{Profile}
use Rattle.profile_model.specs.Ways.{Way, same_way}
use Rattle.report_model.specs.Report.{Classes, Sampled}
use Rattle.binary_model.specs.Places.{Place, outside, nameless, no_line, at_way}
use Rattle.output_model.specs.Program.{Program, way_at}

-- The first reason why a branch cannot be told of places: what that of its source lacks, or else that of its target.
-- A target needs no line.
abbrev pub reason_of_places : Place → Place → Option Reason
reason_of_places outside to = Some FromOutside
reason_of_places nameless to = Some FromNameless
reason_of_places no_line to = Some FromNoLine
reason_of_places (at_way way) outside = Some ToOutside
reason_of_places (at_way way) nameless = Some ToNameless
reason_of_places (at_way way) no_line = None
reason_of_places (at_way way) (at_way other) = None

-- A branch that enters a named function is an entry, wherever it comes from. A report tells no names: the number 0
-- stands for each.
abbrev pub class_of_places : Option (List ℕ) → Place → Place → Class
class_of_places (Some name) from to = Entry (record { 0 = 0 })
class_of_places None from to = class_by_reason (reason_of_places from to)

-- The class of a branch.
abbrev pub class_of_branch : Program → ℕ × ℕ → Class
class_of_branch program (from, to) = class_of_places (program.entered to) (program.place from) (program.place to)

-- The class of a sampled range.
abbrev pub class_of_range : Program → ℕ × ℕ → RangeClass
class_of_range program (first, last) = range_class program.function first last

-- The classes that a program gives to branches and ranges.
abbrev pub classes_of : Program → Classes
classes_of program = record { of_branch = class_of_branch program; of_range = class_of_range program }

-- A range ran over an address.
abbrev pub ran_over : Program → ℕ → ℕ × ℕ → Bool
ran_over program address range =
    is_class Ran (class_of_range program range) && (nat_le range.0 address && nat_le address range.1)

-- The hits of an address: how many sampled ranges ran over it.
abbrev pub hits_of : Program → Sampled → ℕ → ℕ
hits_of program sampled address = count_by (ran_over program address) sampled.ranges

-- The largest of some numbers, and 0 without any.
abbrev pub largest : List ℕ → ℕ
largest [] = 0
largest (n ∷ numbers) = max n (largest numbers)

-- An address has a way.
abbrev pub has_way : Program → Way → ℕ → Bool
has_way program way address = option_map_or (same_way way) (way_at program address) false

-- The count of a way: the largest hits times factor of those of some addresses that have it.
abbrev pub count_among : List ℕ → Program → Sampled → Way → ℕ
count_among addresses program sampled way =
    largest (map (weighed (hits_of program sampled) program.factor) (filter (has_way program way) addresses))

-- The ways of some addresses, each once.
abbrev pub ways_among : List ℕ → Program → List Way
ways_among addresses program = ordered (way_cmp (λ _. 0)) (filter_map (way_at program) addresses)

-- A call of a named function from a way.
abbrev pub call_by : Option Way → Option (List ℕ) → Option (Way × List ℕ × ℕ)
call_by None callee = None
call_by (Some way) None = None
call_by (Some way) (Some name) = Some (way, name, 1)

-- The call that a branch is, where it enters a named function and comes from a way.
abbrev pub call_of : Program → ℕ × ℕ → Option (Way × List ℕ × ℕ)
call_of program (from, to) = call_by (way_at program from) (program.entered to)

-- The entry of a named function that a branch is, wherever it comes from.
abbrev pub head_of : Program → ℕ × ℕ → Option (List ℕ × ℕ)
head_of program (from, to) = option_map (λ name. (name, 1)) (program.entered to)

-- The profile as far as some addresses tell it: a count for each way, the calls, and the entries.
abbrev pub profile_among : List ℕ → Program → Sampled → Profile
profile_among addresses program sampled = record {
  counts = map (λ way. (way, count_among addresses program sampled way)) (ways_among addresses program);
  calls = filter_map (call_of program) sampled.branches;
  heads = filter_map (head_of program) sampled.branches;
}

-- All addresses.
-- Why: A count is the largest over these. No one computes it so: segments and a sweep give it.
unfoldable pub all_addresses : List ℕ
all_addresses = range_with_len 0 (2 ^ 64)

-- The profile of a program and its samples.
unfoldable pub profile_of : Program → Sampled → Profile
profile_of program sampled = profile_among all_addresses program sampled
