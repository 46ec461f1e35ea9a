-- The definitions on worked values.
use Rattle.std.proofs.Common.{◌≡◌, ℕ, Option, None, Some, refl, nat_lt}
use Rattle.std.specs.Prelude.{if◌then◌else◌}
use Rattle.key_types.specs.declared.ids.NameId.{NameId}
use Rattle.key_types.specs.declared.places.Where.{Where}
use Rattle.key_types.specs.declared.places.Where.TheVariants.{Outside, Nameless, NoLine, At}
use Rattle.report_model.specs.declared.class.Class.TheVariants.{Entry, Inside, Unmapped}
use Rattle.report_model.specs.declared.class.RangeClass.TheVariants.{Ran, Reversed, RangeOutside, Crossing}
use Rattle.report_model.specs.declared.class.Reason.TheVariants.{FromOutside, FromNameless, FromNoLine, ToOutside, ToNameless}
use Rattle.report_model.specs.Branches.{branch_class}
use Rattle.report_model.specs.Ranges.{range_class}

-- function 1 from 10 on, function 2 from 20 on, none from 30 on
function : ℕ → Option ℕ
function a = if nat_lt a 10 then None else (if nat_lt a 20 then Some 1 else (if nat_lt a 30 then Some 2 else None))

ran : range_class function 10 19 ≡ Ran
unfolding function
ran = refl

one_address : range_class function 25 25 ≡ Ran
unfolding function
one_address = refl

crossing : range_class function 15 20 ≡ Crossing
unfolding function
crossing = refl

outside : range_class function 25 30 ≡ RangeOutside
unfolding function
outside = refl

reversed : range_class function 40 39 ≡ Reversed
unfolding function
reversed = refl

-- a key from 10 on, entered at 10; no line from 20 on, no name from 30 on, and nothing from 40 on
place : ℕ → Where
place a = if nat_lt a 20 then At (record { 0 = 7 }) else (if nat_lt a 30 then NoLine else (if nat_lt a 40 then Nameless else Outside))

entry_name : ℕ → Option NameId
entry_name a = if nat_lt a 10 then None else (if nat_lt a 11 then Some (record { 0 = 5 }) else None)

entry : branch_class place entry_name 45 10 ≡ Entry (record { 0 = 5 })
unfolding place entry_name
entry = refl

inside : branch_class place entry_name 12 25 ≡ Inside
unfolding place entry_name
inside = refl

no_line : branch_class place entry_name 25 45 ≡ Unmapped FromNoLine
unfolding place entry_name
no_line = refl

to_outside : branch_class place entry_name 12 45 ≡ Unmapped ToOutside
unfolding place entry_name
to_outside = refl

to_nameless : branch_class place entry_name 12 35 ≡ Unmapped ToNameless
unfolding place entry_name
to_nameless = refl

from_first : branch_class place entry_name 35 45 ≡ Unmapped FromNameless
unfolding place entry_name
from_first = refl

outside_at_both_ends : branch_class place entry_name 45 45 ≡ Unmapped FromOutside
unfolding place entry_name
outside_at_both_ends = refl
