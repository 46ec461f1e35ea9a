-- Line programs that are known, and what the rows of a unit then are.
use Rattle.std.proofs.Common.{◌≡◌, ◌≤◌, ◌+◌, ℕ, zero, suc, List, [], ◌∷◌, ◌++◌, length, Option, None, Some, Ok, Err, refl, sym, ap, subst, ◌∙◌, arith, nat_lt, Bool, true, false, inl, inr}
use Rattle.std.specs.Prelude.{if◌then◌else◌}
use Rattle.std.specs.List.{slice_get}
use Rattle.std.specs.Option.{option_map, option_map_or}
use Rattle.std.specs.Ordering.{nat_cmp}
use Rattle.std.specs.BTreeMap.{BTreeMap, get, is_at}
use Rattle.std.specs.Map.{lookup}
use Rattle.std.proofs.lemmas.Bool.{cases_eq}
use Rattle.std.proofs.lemmas.Option.{slice_get_within}
use Rattle.refusal.specs.declared.place.Place.{Place}
use Rattle.byte_view.specs.Cursor.{Cursor}
use Rattle.placed_view.specs.Reader.{cursor_behind}
use Rattle.line_model.specs.declared.row.Row.{Row}
use Rattle.line_model.specs.Fields.{Judged, ◌>>=◌}
use Rattle.line_model.specs.Program.{max_rows_of_all, rows_at}
use Rattle.line_model.specs.Rows.{Sequence, live_sequences}
use Rattle.binary_model.specs.LinePrograms.{rows_from}
use Rattle.binary_places.specs.declared.programs.NamedProgram.{NamedProgram}
use Rattle.binary_places.specs.declared.shared.Known.{Known}
use Rattle.binary_places.specs.declared.shared.UnitRows.{UnitRows}
use Rattle.binary_places.specs.declared.shared.UnitRows.TheVariants.{Absent, Read, Again}
use Rattle.binary_places.specs.Tables.{rows_named}
use Rattle.binary_places.specs.Shared.{GivesUnitRows, HasTable, IsTable, Keeps, count_of}
use Rattle.binary_places.proofs.LimitLemmas.{rows_again}

-- ---- a program has the same rows wherever it is named

-- The program at an offset has these rows, wherever it is named and they are not too many.
abbrev pub Repeats : Option Cursor → ℕ → List Row → Type 0
Repeats section offset rows = (before at : ℕ) → before + length rows ≤ max_rows_of_all → rows_from before section at offset ≡ Ok rows

repeated : (past : Bool) (a b : Place) (was before : ℕ) (cur : Cursor) (rows : List Row) → before + length rows ≤ max_rows_of_all
    → (if past then Err a else rows_at was cur) ≡ Ok rows → (if past then Err b else rows_at before cur) ≡ Ok rows
repeated true a b was before cur rows few e = absurd cc
repeated false a b was before cur rows few e = rows_again was before cur rows e few

repeats : (section : Option Cursor) (was at offset : ℕ) (rows : List Row) → rows_from was section at offset ≡ Ok rows → Repeats section offset rows
repeats None was at offset rows read = absurd cc
repeats (Some section) was at offset rows read =
    λ before other few. repeated (nat_lt (length section.left) offset) _ _ was before (cursor_behind offset section) rows few read

-- ---- what is known

-- A program is known: it has so many rows, and their table is that of a unit before.
pub record IsKnown (file : List ℕ) (section : Option Cursor) (tables : List (Option (List Sequence))) (offset : ℕ) (known : Known) : Type 0 where
  pub rows : List Row
  pub counted : known.rows ≡ length rows
  pub table : slice_get tables known.unit ≡ Some (Some (live_sequences file rows))
  pub repeats : Repeats section offset rows

-- All programs that are known.
abbrev pub AreKnown : List ℕ → Option Cursor → List (Option (List Sequence)) → BTreeMap ℕ Known → Type 0
AreKnown file section tables known = (offset : ℕ) (one : Known) → get nat_cmp known offset ≡ Some one → IsKnown file section tables offset one

pub AreKnown-none : (file : List ℕ) (section : Option Cursor) (tables : List (Option (List Sequence))) (known : BTreeMap ℕ Known) → known.entries ≡ [] → AreKnown file section tables known
AreKnown-none file section tables known none offset one is =
    let nothing : get nat_cmp known offset ≡ None = ap (λ (es : List (ℕ × Known)). lookup (is_at (nat_cmp offset)) es) none in
    absurd cc

get-front : {X : Type 0} (xs ys : List X) (i : ℕ) (x : X) → slice_get xs i ≡ Some x → slice_get (xs ++ ys) i ≡ Some x
get-front [] ys i x is = absurd cc
get-front (y ∷ xs) ys zero x is = is
get-front (y ∷ xs) ys (suc i) x is = get-front xs ys i x is

get-last : {X : Type 0} (xs : List X) (x : X) (i : ℕ) → length xs ≡ i → slice_get (xs ++ x ∷ []) i ≡ Some x
get-last [] x zero is = refl
get-last [] x (suc i) is = absurd (omega (arith, is))
get-last (y ∷ xs) x zero is = absurd (omega (arith, is))
get-last (y ∷ xs) x (suc i) is = get-last xs x i (omega (arith, is))

-- a table more hides none
still : (file : List ℕ) (section : Option Cursor) (tables : List (Option (List Sequence))) (table : Option (List Sequence)) (offset : ℕ) (one : Known)
    → IsKnown file section tables offset one → IsKnown file section (tables ++ table ∷ []) offset one
still file section tables table offset one is = record {
  rows = is.rows;
  counted = is.counted;
  table = get-front tables (table ∷ []) one.unit (Some (live_sequences file is.rows)) is.table;
  repeats = is.repeats;
}

-- ---- the rows of the next unit

module _ (file : List ℕ) (section : Option Cursor) (tables : List (Option (List Sequence))) (known : BTreeMap ℕ Known) (are : AreKnown file section tables known) (before : ℕ) where
  pub has_table : (program : Option NamedProgram) (rows : UnitRows) → GivesUnitRows section known before program (Ok rows) → HasTable (length tables) rows
  has_table None Absent gives = tt
  has_table None (Read offset rows) gives = tt
  has_table None (Again one) gives = absurd cc
  has_table (Some program) Absent gives = tt
  has_table (Some program) (Read offset rows) gives = tt
  has_table (Some program) (Again one) gives = slice_get_within tables one.unit _ (are program.offset one gives.0).table

  -- The rows of a unit that are told, with their table and their number.
  pub record IsUnit (program : Option NamedProgram) (rows : UnitRows) (table : Option (List Sequence)) : Type 0 where
    pub all : Option (List Row)
    pub told : rows_named before section program ≡ Ok all
    pub table_is : table ≡ option_map (live_sequences file) all
    pub count_is : count_of rows ≡ option_map_or length all 0

  pub is_unit : (program : Option NamedProgram) (rows : UnitRows) (table : Option (List Sequence)) → GivesUnitRows section known before program (Ok rows) → IsTable file tables rows table
      → IsUnit program rows table
  is_unit None Absent table gives is = record { all = None; told = refl; table_is = is; count_is = refl }
  is_unit None (Read offset rows) table gives is = absurd cc
  is_unit None (Again one) table gives is = absurd cc
  is_unit (Some program) Absent table gives is = absurd gives
  is_unit (Some program) (Read offset rows) table gives is = record {
    all = Some rows.items;
    told = ap (λ (r : Judged (List Row)). r >>= λ rows. Ok (Some rows)) gives.1;
    table_is = is;
    count_is = refl;
  }
  is_unit (Some program) (Again one) table gives is =
      let found = are program.offset one gives.0 in
      let few : before + length found.rows ≤ max_rows_of_all = omega (arith, gives.1, found.counted) in
      record {
        all = Some found.rows;
        told = ap (λ (r : Judged (List Row)). r >>= λ rows. Ok (Some rows)) (found.repeats before program.at few);
        table_is = let at = found.table in let same : table ≡ Some (live_sequences file found.rows) = cc in same;
        count_is = found.counted;
      }

  -- ---- what is known then

  module _ (unit : ℕ) (long : length tables ≡ unit) (table : Option (List Sequence)) (more : BTreeMap ℕ Known) where
    kept : more ≡ known → AreKnown file section (tables ++ table ∷ []) more
    kept same offset one is =
        still file section tables table offset one (are offset one (ap (λ (m : BTreeMap ℕ Known). get nat_cmp m offset) (sym same) ∙ is))

    new : (at offset : ℕ) (rows : List Row) (one : Known) → rows_from before section at offset ≡ Ok rows → table ≡ Some (live_sequences file rows)
        → one ≡ record { unit = unit; rows = length rows } → IsKnown file section (tables ++ table ∷ []) offset one
    new at offset rows one read is same = record {
      rows = rows;
      counted = ap (λ (k : Known). k.rows) same;
      table = ap (λ n. slice_get (tables ++ table ∷ []) n) (ap (λ (k : Known). k.unit) same) ∙ get-last tables table unit long ∙ ap Some is;
      repeats = repeats section before at offset rows read;
    }

    pub AreKnown-more : (program : Option NamedProgram) (rows : UnitRows) → GivesUnitRows section known before program (Ok rows) → IsTable file tables rows table → Keeps unit rows known more
        → AreKnown file section (tables ++ table ∷ []) more
    AreKnown-more program Absent gives is keeps = kept keeps
    AreKnown-more program (Again one) gives is keeps = kept keeps
    AreKnown-more None (Read offset rows) gives is keeps = absurd cc
    AreKnown-more (Some program) (Read offset rows) gives is keeps = λ other one at. elim (cases_eq offset other) [
      | inl same ↦
          let here : ◌≡◌ {A = Option Known} (Some (record { unit = unit; rows = length rows.items })) (Some one) = sym keeps.0 ∙ ap (λ (q : ℕ). get nat_cmp more q) same ∙ at in
          subst (λ (q : ℕ). IsKnown file section (tables ++ table ∷ []) q one) (sym gives.0 ∙ same)
          (new program.at program.offset rows.items one gives.1 is cc)
      | inr apart ↦ still file section tables table other one (are other one (sym (keeps.1 other apart) ∙ at))
    ]
