-- The rows of a table, with one more.
use Rattle.std.proofs.Common.{◌≡◌, ℕ, ◌+◌, ◌-◌, ◌<◌, ◌≤◌, true, cond, nat_le, nat_lt, List, [], ◌∷◌, ◌++◌, length, map, take, drop, zero, suc, not, None, Some, refl, sym, ap, subst, ◌∙◌, inl, inr, arith}
use Rattle.std.specs.Prelude.{◌==◌, position, is_some, slice_range, slice_get}
use Rattle.std.specs.List.{AllByRecursion, position_or_len}
use Rattle.std.proofs.lemmas.List.{length-append, length-drop, drop-append-le, take-append-le, map-append, drop_at, take_all, length-map}
use Rattle.std.proofs.lemmas.Bool.Decides.{nat_tests}
use Rattle.std.proofs.lemmas.List.Folds.{find_at}
use Rattle.std.proofs.lemmas.Option.{slice_get_cases}
use Rattle.std.proofs.lemmas.List.Quantifiers.{position-Some}
use Rattle.unit_model.specs.Abbrev.{Attr, Abbrev, find_code, has_code}
use Rattle.unit_model.specs.Table.{max_abbrevs}
use Rattle.dwarf_abbrev.specs.declared.rows.AbbrevRow.{AbbrevRow}
use Rattle.dwarf_abbrev.specs.declared.rows.AbbrevRows.{AbbrevRows}
use Rattle.dwarf_abbrev.specs.Codes.{place_of}
use Rattle.dwarf_abbrev.specs.Rows.{abbrev_of_row, IsWithin, IsWhole, AddsRow, AddsAbbrev, table_of}

-- ---- more attributes

row-kept : (attrs more : List Attr) (row : AbbrevRow) → IsWithin attrs row → abbrev_of_row (attrs ++ more) row ≡ abbrev_of_row attrs row
row-kept attrs more row w =
    let d : drop row.first (attrs ++ more) ≡ drop row.first attrs ++ more = drop-append-le row.first attrs more (omega (arith, w.ordered, w.within)) in
    let n : row.end - row.first ≤ length (drop row.first attrs) = omega (arith, length-drop row.first attrs, w.ordered, w.within) in
    ap (λ (xs : List Attr). record { code = row.code; tag = row.tag; children = row.children; attrs = xs })
    (ap (take (row.end - row.first)) d ∙ take-append-le (row.end - row.first) (drop row.first attrs) more n)

rows-kept : (attrs more : List Attr) (rows : List AbbrevRow) → AllByRecursion (IsWithin attrs) rows → map (abbrev_of_row (attrs ++ more)) rows ≡ map (abbrev_of_row attrs) rows
rows-kept attrs more [] w = refl
rows-kept attrs more (row ∷ rows) w =
    ap (λ (a : Abbrev). a ∷ map (abbrev_of_row (attrs ++ more)) rows) (row-kept attrs more row w.0)
    ∙ ap (λ (t : List Abbrev). abbrev_of_row attrs row ∷ t) (rows-kept attrs more rows w.1)

within-more : (attrs more : List Attr) (rows : List AbbrevRow) (row : AbbrevRow) → AllByRecursion (IsWithin attrs) rows → IsWithin (attrs ++ more) row
    → AllByRecursion (IsWithin (attrs ++ more)) (rows ++ row ∷ [])
within-more attrs more [] row w here = (here, tt)
within-more attrs more (r ∷ rows) row w here = (
  record { ordered = w.0.ordered; within = omega (arith, w.0.within, length-append attrs more) },
  within-more attrs more rows row w.1 here,
)

last_range : (attrs more : List Attr) (first end : ℕ) → first ≡ length attrs → end ≡ length (attrs ++ more) → slice_range (attrs ++ more) first end ≡ more
last_range attrs more first end at to =
    ap (take (end - first)) (drop_at attrs more first (sym at)) ∙ take_all (end - first) more (omega (arith, length-append attrs more))

-- ---- one row more

pub AddsAbbrev-row : (old mid new : AbbrevRows) (row : AbbrevRow) (more : List Attr) → IsWhole old → mid.rows.items ≡ old.rows.items → mid.codes ≡ old.codes
    → mid.attrs.items ≡ old.attrs.items ++ more → row.first ≡ length old.attrs.items → row.end ≡ length mid.attrs.items → AddsRow mid new row
    → AddsAbbrev old new (record { code = row.code; tag = row.tag; children = row.children; attrs = more })
AddsAbbrev-row old mid new row more is same_rows same_codes same_attrs first end adds =
    let attrs : new.attrs.items ≡ old.attrs.items ++ more = adds.attrs ∙ same_attrs in
    let rows : new.rows.items ≡ old.rows.items ++ row ∷ [] = adds.rows ∙ ap (λ (rs : List AbbrevRow). rs ++ row ∷ []) same_rows in
    let to : row.end ≡ length (old.attrs.items ++ more) = end ∙ ap (λ (xs : List Attr). length xs) same_attrs in
    let here : IsWithin (old.attrs.items ++ more) row = record { ordered = omega (arith, first, to, length-append old.attrs.items more); within = omega (arith, to) } in
    let last : abbrev_of_row (old.attrs.items ++ more) row ≡ record { code = row.code; tag = row.tag; children = row.children; attrs = more } =
    ap (λ (xs : List Attr). record { code = row.code; tag = row.tag; children = row.children; attrs = xs }) (last_range old.attrs.items more row.first row.end first to) in
    record {
      table = ap (λ (xs : List Attr). map (abbrev_of_row xs) new.rows.items) attrs
          ∙ ap (λ (rs : List AbbrevRow). map (abbrev_of_row (old.attrs.items ++ more)) rs) rows
          ∙ map-append (abbrev_of_row (old.attrs.items ++ more)) old.rows.items (row ∷ [])
          ∙ ap (λ (t : List Abbrev). t ++ abbrev_of_row (old.attrs.items ++ more) row ∷ []) (rows-kept old.attrs.items more old.rows.items is.within)
          ∙ ap (λ (a : Abbrev). table_of old ++ a ∷ []) last;
      whole = record {
        within = subst (λ (xs : List Attr). AllByRecursion (IsWithin xs) new.rows.items) (sym attrs)
            (subst (λ (rs : List AbbrevRow). AllByRecursion (IsWithin (old.attrs.items ++ more)) rs) (sym rows) (within-more old.attrs.items more old.rows.items row is.within here));
        codes = ap (λ (rs : List AbbrevRow). map (λ (r : AbbrevRow). r.code) rs) rows ∙ map-append (λ (r : AbbrevRow). r.code) old.rows.items (row ∷ [])
            ∙ ap (λ (cs : List ℕ). cs ++ row.code ∷ []) (is.codes ∙ sym same_codes) ∙ sym adds.codes;
      };
    }

-- ---- what the rows say of the table

codes_of : (attrs : List Attr) (rows : List AbbrevRow) → map (λ (a : Abbrev). a.code) (map (abbrev_of_row attrs) rows) ≡ map (λ (r : AbbrevRow). r.code) rows
codes_of attrs [] = refl
codes_of attrs (row ∷ rows) = ap (λ (cs : List ℕ). row.code ∷ cs) (codes_of attrs rows)

codes-are : (rows : AbbrevRows) → IsWhole rows → map (λ (a : Abbrev). a.code) (table_of rows) ≡ rows.codes
codes-are rows is = codes_of rows.attrs.items rows.rows.items ∙ is.codes

length-is : (rows : AbbrevRows) → length (table_of rows) ≡ length rows.rows.items
length-is rows = length-map rows.rows.items (abbrev_of_row rows.attrs.items)

position-map : (table : List Abbrev) (code : ℕ) → position_or_len (λ (a : Abbrev). a.code == code) table ≡ position_or_len (λ c. c == code) (map (λ (a : Abbrev). a.code) table)
position-map [] code = refl
position-map (a ∷ table) code = ap (λ n. cond (not (a.code == code)) (1 + n) 0) (position-map table code)

slice_get-past : {X : Type 0} (xs : List X) (k : ℕ) → length xs ≤ k → slice_get xs k ≡ None
slice_get-past [] k past = refl
slice_get-past (x ∷ xs) zero past = absurd (omega arith)
slice_get-past (x ∷ xs) (suc k) past = slice_get-past xs k (omega arith)

-- What the place of a code says of its abbreviation.
pub record IsPlace (table : List Abbrev) (code place : ℕ) : Type 0 where
  pub within : place < length table
  pub found : find_code table code ≡ slice_get table place

position_is : (codes : List ℕ) (code place : ℕ) → place_of codes code ≡ Some place → position_or_len (λ c. c == code) codes ≡ place
position_is codes code place some = grind (arith, nat_tests)

position_past : (codes : List ℕ) (code : ℕ) → place_of codes code ≡ None → length codes ≤ position_or_len (λ c. c == code) codes
position_past codes code none = grind (arith, nat_tests)

pub place-some : (rows : AbbrevRows) (code place : ℕ) → IsWhole rows → place_of rows.codes code ≡ Some place → IsPlace (table_of rows) code place
unfolding find_code
place-some rows code place is some =
    let table = table_of rows in
    let codes = codes-are rows is in
    let at = position-Some (λ c. c == code) rows.codes place 0 some in
    let n : length table ≡ length rows.codes = sym (length-map table (λ (a : Abbrev). a.code)) ∙ ap (λ (cs : List ℕ). length cs) codes in
    let first : position_or_len (λ (a : Abbrev). a.code == code) table ≡ place =
    position-map table code ∙ ap (λ (cs : List ℕ). position_or_len (λ c. c == code) cs) codes ∙ position_is rows.codes code place some in
    record {
      within = omega (arith, at.0);
      found = find_at (λ (a : Abbrev). a.code == code) table ∙ ap (slice_get table) first;
    }

pub place-none : (rows : AbbrevRows) (code : ℕ) → IsWhole rows → place_of rows.codes code ≡ None → find_code (table_of rows) code ≡ None
unfolding find_code
place-none rows code is none =
    let table = table_of rows in
    let codes = codes-are rows is in
    let n : length table ≡ length rows.codes = sym (length-map table (λ (a : Abbrev). a.code)) ∙ ap (λ (cs : List ℕ). length cs) codes in
    let past : length rows.codes ≤ position_or_len (λ c. c == code) rows.codes = position_past rows.codes code none in
    let first : position_or_len (λ (a : Abbrev). a.code == code) table ≡ position_or_len (λ c. c == code) rows.codes =
    position-map table code ∙ ap (λ (cs : List ℕ). position_or_len (λ c. c == code) cs) codes in
    find_at (λ (a : Abbrev). a.code == code) table ∙ slice_get-past table _ (omega arith)

has_code-some : (table : List Abbrev) (code place : ℕ) → IsPlace table code place → has_code table code ≡ true
has_code-some table code place is =
    elim (slice_get_cases table place).1 [
      | inl there ↦ ap is_some (is.found ∙ there.2)
      | inr past ↦ absurd (omega (arith, is.within, past.0))
    ]

-- whether a code stands in the table
pub has_code-is : (rows : AbbrevRows) (code : ℕ) → IsWhole rows → has_code (table_of rows) code ≡ is_some (place_of rows.codes code)
has_code-is rows code is =
    elim (place_of rows.codes code) as (λ o. place_of rows.codes code ≡ o → has_code (table_of rows) code ≡ is_some o) [
      | None ↦ λ none. ap is_some (place-none rows code is none)
      | Some place ↦ λ some. has_code-some (table_of rows) code place (place-some rows code place is some)
    ] refl

-- whether the table is full
pub is_full-is : (rows : AbbrevRows) → nat_le max_abbrevs (length (table_of rows)) ≡ nat_le 1048576 (length rows.rows.items)
is_full-is rows = ap (nat_le max_abbrevs) (length-is rows)

pub ruleset next_lemmas = (has_code-is, is_full-is)

-- ---- a look-up

-- the place of a code among the rows is that of its abbreviation in the table
pub place-is : (rows : AbbrevRows) (code : ℕ) → IsWhole rows → position (λ (a : Abbrev). a.code == code) (table_of rows) ≡ place_of rows.codes code
place-is rows code is =
    let table = table_of rows in
    let codes = codes-are rows is in
    let n : length table ≡ length rows.codes = sym (length-map table (λ (a : Abbrev). a.code)) ∙ ap (λ (cs : List ℕ). length cs) codes in
    let first : position_or_len (λ (a : Abbrev). a.code == code) table ≡ position_or_len (λ c. c == code) rows.codes =
    position-map table code ∙ ap (λ (cs : List ℕ). position_or_len (λ c. c == code) cs) codes in
    ap (λ k. cond (nat_lt k (length table)) (Some k) None) first
    ∙ ap (λ m. cond (nat_lt (position_or_len (λ c. c == code) rows.codes) m) (Some (position_or_len (λ c. c == code) rows.codes)) None) n

pub found-at : (table : List Abbrev) (code place : ℕ) (kind : Abbrev) → position (λ (a : Abbrev). a.code == code) table ≡ Some place → slice_get table place ≡ Some kind → find_code table code ≡ Some kind
unfolding find_code
found-at table code place kind is there =
    let first : position_or_len (λ (a : Abbrev). a.code == code) table ≡ place = grind (arith, nat_tests) in
    find_at (λ (a : Abbrev). a.code == code) table ∙ ap (slice_get table) first ∙ there

pub found-none : (table : List Abbrev) (code : ℕ) → position (λ (a : Abbrev). a.code == code) table ≡ None → find_code table code ≡ None
unfolding find_code
found-none table code none =
    let past : length table ≤ position_or_len (λ (a : Abbrev). a.code == code) table = grind (arith, nat_tests) in
    find_at (λ (a : Abbrev). a.code == code) table ∙ slice_get-past table _ past
