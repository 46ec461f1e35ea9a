-- The tables of the units so far.
use Rattle.std.proofs.Common.{◌≡◌, ◌≤◌, ◌<◌, ◌+◌, ℕ, zero, suc, List, [], ◌∷◌, ◌++◌, length, drop, Option, None, Some, Result, Ok, Err, refl, sym, ap, subst, ◌∙◌, add-one, arith, nat_lt, Bool, true, false, length-append}
use Rattle.std.specs.Prelude.{map, if◌then◌else◌}
use Rattle.std.specs.Option.{option_map, option_map_or}
use Rattle.std.specs.Result.{IsErrAnd, result_err}
use Rattle.std.specs.BTreeMap.{BTreeMap}
use Rattle.std.proofs.lemmas.List.{drop_all}
use Rattle.std.proofs.lemmas.List.Sums.{sum_by_push}
use Rattle.refusal.specs.declared.place.Place.{Place}
use Rattle.refusal.specs.declared.place.Stop.{Stop}
use Rattle.refusal.specs.declared.place.Stop.TheVariants.{Refused, NoMemory}
use Rattle.refusal.specs.Place.{JudgesUnlessNoMemory}
use Rattle.byte_view.specs.Cursor.{Cursor}
use Rattle.placed_view.specs.Reader.{cursor_behind}
use Rattle.unit_model.specs.Values.{Found}
use Rattle.unit_model.specs.Constants.{DW_AT_stmt_list}
use Rattle.unit_model.specs.Units.{Unit, Units}
use Rattle.tree_model.specs.Bases.{root_attribute, section_place}
use Rattle.line_model.specs.declared.row.Row.{Row}
use Rattle.line_model.specs.Fields.{Judged, ◌>>=◌}
use Rattle.line_model.specs.Program.{max_rows_of_all, rows_at}
use Rattle.line_model.specs.Rows.{Sequence, live_sequences}
use Rattle.binary_model.specs.LinePrograms.{row_count, rows_behind, rows_by, rows_from, rows_if, rows_of_unit, rows_of_units}
use Rattle.binary_places.specs.declared.programs.NamedProgram.{NamedProgram}
use Rattle.binary_places.specs.declared.shared.Known.{Known}
use Rattle.binary_places.specs.Shared.{GivesUnitRows}
use Rattle.binary_places.specs.Tables.{AreTables, AreTablesOf, rows_named}
use Rattle.binary_places.proofs.LimitLemmas.{rows_within}

-- ---- the rows of one unit are not too many

abbrev count : Option (List Row) → ℕ
count rows = option_map_or length rows 0

none_within : (before : ℕ) (rows : Option (List Row)) → before ≤ max_rows_of_all → ◌≡◌ {A = Judged (Option (List Row))} (Ok None) (Ok rows) → before + count rows ≤ max_rows_of_all
none_within before None few read = omega arith
none_within before (Some rows) few read = absurd cc

mapped : (before : ℕ) (read : Judged (List Row)) (rows : Option (List Row)) → ((all : List Row) → read ≡ Ok all → before + length all ≤ max_rows_of_all)
    → (read >>= λ rows. Ok (Some rows)) ≡ Ok rows → before + count rows ≤ max_rows_of_all
mapped before (Err place) rows few e = absurd cc
mapped before (Ok all) None few e = absurd cc
mapped before (Ok all) (Some rows) few e = few rows cc

chosen : (before : ℕ) (past : Bool) (place : Place) (cur : Cursor) (all : List Row) → before ≤ max_rows_of_all
    → (if past then Err place else rows_at before cur) ≡ Ok all → before + length all ≤ max_rows_of_all
chosen before true place cur all few e = absurd cc
chosen before false place cur all few e = rows_within before cur all few e

from_within : (before : ℕ) (section : Option Cursor) (at offset : ℕ) (all : List Row) → before ≤ max_rows_of_all
    → rows_from before section at offset ≡ Ok all → before + length all ≤ max_rows_of_all
from_within before None at offset all few e = absurd cc
from_within before (Some section) at offset all few e = chosen before (nat_lt (length section.left) offset) _ (cursor_behind offset section) all few e

by_within : (before : ℕ) (section : Option Cursor) (at : ℕ) (offset : Option ℕ) (rows : Option (List Row)) → before ≤ max_rows_of_all
    → rows_by before section at offset ≡ Ok rows → before + count rows ≤ max_rows_of_all
by_within before section at None rows few e = none_within before rows few e
by_within before section at (Some offset) rows few e =
    mapped before (rows_from before section at offset) rows (λ all read. from_within before section at offset all few read) e

if_within : (before : ℕ) (section : Option Cursor) (found : Option Found) (rows : Option (List Row)) → before ≤ max_rows_of_all
    → rows_if before section found ≡ Ok rows → before + count rows ≤ max_rows_of_all
if_within before section None rows few e = none_within before rows few e
if_within before section (Some found) rows few e = by_within before section found.at (section_place found.value) rows few e

pub unit_within : (before : ℕ) (section : Option Cursor) (told : Units) (index : ℕ) (rows : Option (List Row)) → before ≤ max_rows_of_all
    → rows_of_unit section told index before ≡ Ok rows → before + count rows ≤ max_rows_of_all
unfolding rows_of_unit
unit_within before section told index rows few e = if_within before section (root_attribute told index DW_AT_stmt_list) rows few e

-- ---- the units one behind the other

-- Reading the programs of all units is reading those of the units that are left, behind rows of which there are tables.
pub record TablesSoFar (file : List ℕ) (section : Option Cursor) (told : Units) (index before : ℕ) (tables : List (Option (List Sequence))) : Type 0 where
  pub now : List (Option (List Row))
  pub reached : rows_of_units section told ≡ rows_behind section told index (drop index told.units) now
  pub is : AreTablesOf file now tables
  pub long : length tables ≡ index
  pub counted : before ≡ row_count now
  pub few : before ≤ max_rows_of_all

drop-there : {X : Type 0} (xs : List X) (n : ℕ) → n < length xs → (x : X) × (drop n xs ≡ x ∷ drop (suc n) xs)
drop-there [] n less = absurd (omega arith)
drop-there (x ∷ xs) zero less = (x, refl)
drop-there (x ∷ xs) (suc n) less = drop-there xs n (omega arith)

map-push : {X Y : Type 0} (f : X → Y) (xs : List X) (x : X) → map f (xs ++ x ∷ []) ≡ map f xs ++ f x ∷ []
map-push f [] x = refl
map-push f (y ∷ xs) x = ap (λ ys. f y ∷ ys) (map-push f xs x)

pub TablesSoFar-start : (file : List ℕ) (section : Option Cursor) (told : Units) (tables : List (Option (List Sequence))) → tables ≡ [] → TablesSoFar file section told 0 0 tables
unfolding rows_of_units
TablesSoFar-start file section told tables none = record { now = []; reached = refl; is = none; long = ap length none; counted = refl; few = omega arith }

-- one unit is read
one : (section : Option Cursor) (told : Units) (index : ℕ) (unit : Unit) (rest : List Unit) (now : List (Option (List Row))) (before : ℕ) (read : Judged (Option (List Row)))
    → before ≡ row_count now → rows_of_unit section told index before ≡ read
    → rows_behind section told index (unit ∷ rest) now ≡ ((read >>= λ rows. Ok (now ++ rows ∷ [])) >>= rows_behind section told (index + 1) rest)
one section told index unit rest now before read counted is =
    ap (λ n. (rows_of_unit section told index n >>= λ rows. Ok (now ++ rows ∷ [])) >>= rows_behind section told (index + 1) rest) (sym counted)
    ∙ ap (λ (r : Judged (Option (List Row))). (r >>= λ rows. Ok (now ++ rows ∷ [])) >>= rows_behind section told (index + 1) rest) is

-- the next unit is read
reach : (file : List ℕ) (section : Option Cursor) (told : Units) (index before : ℕ) (tables : List (Option (List Sequence))) (so_far : TablesSoFar file section told index before tables)
    (read : Judged (Option (List Row))) → index < length told.units → rows_of_unit section told index before ≡ read
    → rows_of_units section told ≡ ((read >>= λ rows. Ok (so_far.now ++ rows ∷ [])) >>= rows_behind section told (index + 1) (drop (index + 1) told.units))
reach file section told index before tables so_far read within is =
    let there = drop-there told.units index within in
    so_far.reached ∙ ap (λ us. rows_behind section told index us so_far.now) there.1
    ∙ one section told index there.0 (drop (suc index) told.units) so_far.now before read so_far.counted is
    ∙ ap (λ n. (read >>= λ rows. Ok (so_far.now ++ rows ∷ [])) >>= rows_behind section told (index + 1) (drop n told.units)) (sym (add-one index))

pub TablesSoFar-more : (file : List ℕ) (section : Option Cursor) (told : Units) (index before rows : ℕ) (tables : List (Option (List Sequence))) (all : Option (List Row)) (table : Option (List Sequence))
    → TablesSoFar file section told index before tables → index < length told.units → rows_of_unit section told index before ≡ Ok all
    → table ≡ option_map (live_sequences file) all → rows ≡ count all
    → TablesSoFar file section told (index + 1) (before + rows) (tables ++ table ∷ [])
TablesSoFar-more file section told index before rows tables all table so_far within read is counts =
    let sums = sum_by_push (λ rows. option_map_or length rows 0) so_far.now all in
    let more = length-append tables (table ∷ []) in
    let within_all = unit_within before section told index all so_far.few read in
    record {
      now = so_far.now ++ all ∷ [];
      reached = reach file section told index before tables so_far (Ok all) within read;
      is = ap (λ ts. ts ++ table ∷ []) so_far.is ∙ ap (λ t. map (option_map (live_sequences file)) so_far.now ++ t ∷ []) is
          ∙ sym (map-push (option_map (live_sequences file)) so_far.now all);
      long = omega (arith, more, so_far.long);
      counted = ap (λ n. before + n) counts ∙ ap (λ n. n + count all) so_far.counted ∙ sym sums;
      few = omega (arith, within_all, counts);
    }

judged : (file : List ℕ) (told : Judged (List (Option (List Row)))) (units : List (Option (List Row))) (tables : List (Option (List Sequence))) → told ≡ Ok units → AreTablesOf file units tables
    → (result_err told ≡ None) × AreTables file told tables
judged file told units tables is are = (ap result_err is, (units, is, are))

pub TablesSoFar-end : (file : List ℕ) (section : Option Cursor) (told : Units) (index before : ℕ) (tables : List (Option (List Sequence)))
    → TablesSoFar file section told index before tables → length told.units ≤ index
    → (result_err (rows_of_units section told) ≡ None) × AreTables file (rows_of_units section told) tables
TablesSoFar-end file section told index before tables so_far past =
    judged file (rows_of_units section told) so_far.now tables
    (so_far.reached ∙ ap (λ us. rows_behind section told index us so_far.now) (drop_all index told.units past)) so_far.is

pub TablesSoFar-stop : (file : List ℕ) (section : Option Cursor) (told : Units) (index before : ℕ) (tables : List (Option (List Sequence))) (known : BTreeMap ℕ Known) (program : Option NamedProgram) (why : Stop)
    {T : Type 0} (P : T → Type 0) (r : Result T Stop) → TablesSoFar file section told index before tables → index < length told.units
    → rows_of_unit section told index before ≡ rows_named before section program → GivesUnitRows section known before program (Err why)
    → IsErrAnd r (λ s. s ≡ why) → JudgesUnlessNoMemory (result_err (rows_of_units section told)) r P
TablesSoFar-stop file section told index before tables known program why {T} P (Ok x) so_far within is gives stops = absurd stops
TablesSoFar-stop file section told index before tables known program why {T} P (Err NoMemory) so_far within is gives stops = tt
TablesSoFar-stop file section told index before tables known None why {T} P (Err (Refused bad)) so_far within is gives stops = absurd cc
TablesSoFar-stop file section told index before tables known (Some program) why {T} P (Err (Refused bad)) so_far within is gives stops =
    let refused = subst (λ w. GivesUnitRows section known before (Some program) (Err w)) (sym stops) gives in
    ap result_err (reach file section told index before tables so_far (Err bad) within
    (is ∙ ap (λ (r : Judged (List Row)). r >>= λ rows. Ok (Some rows)) refused))
