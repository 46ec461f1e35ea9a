-- A look-up among rows, as one among entries.
use Rattle.std.proofs.Common.{◌≡◌, ℕ, ◌+◌, ◌<◌, ◌≤◌, ◌≢◌, zero, suc, true, false, inl, inr, ltb, cond, not, nat_lt, List, [], ◌∷◌, length, get_or, None, Some, refl, ap, ◌∙◌, arith}
use Rattle.std.specs.Prelude.{◌==◌, position, AllPairs}
use Rattle.std.specs.List.{position_or_len}
use Rattle.std.specs.Option.{option_map}
use Rattle.std.specs.List.Sorted.{IsNonDecreasingBy, IsPartitionPoint}
use Rattle.std.proofs.lemmas.Bool.{cases_lt, ltb-true, ltb-false, le-ltb, ne_eqb}
use Rattle.std.proofs.lemmas.List.{get_or-map, length-map}
use Rattle.std.proofs.lemmas.Option.{slice_get-map, slice_get_read}
use Rattle.unit_model.specs.Values.{Found}
use Rattle.unit_model.specs.Entries.{Entry}
use Rattle.dwarf_info.specs.declared.rows.EntryRow.{EntryRow}
use Rattle.dwarf_info.specs.Rows.{entry_of_row, entries_of, Ascend}
use Rattle.dwarf_info.specs.Found.{FindsEntry}

position_or_len-rows : (found : List Found) (rows : List EntryRow) (at : ℕ) → position_or_len (λ (e : Entry). e.at == at) (entries_of found rows) ≡ position_or_len (λ (r : EntryRow). r.at == at) rows
position_or_len-rows found [] at = refl
position_or_len-rows found (row ∷ rows) at = ap (λ n. cond (not (row.at == at)) (1 + n) 0) (position_or_len-rows found rows at)

position-rows : (found : List Found) (rows : List EntryRow) (at : ℕ) → position (λ (e : Entry). e.at == at) (entries_of found rows) ≡ position (λ (r : EntryRow). r.at == at) rows
position-rows found rows at =
    ap (λ n. cond (nat_lt n (length (entries_of found rows))) (Some n) None) (position_or_len-rows found rows at)
    ∙ ap (λ n. cond (nat_lt (position_or_len (λ (r : EntryRow). r.at == at) rows) n) (Some (position_or_len (λ (r : EntryRow). r.at == at) rows)) None) (length-map rows (entry_of_row found))

get_or-any : (xs : List EntryRow) (i : ℕ) (a b : EntryRow) → i < length xs → get_or xs i a ≡ get_or xs i b
get_or-any [] i a b inside = absurd (omega (arith, inside))
get_or-any (x ∷ xs) zero a b inside = refl
get_or-any (x ∷ xs) (suc i) a b inside = get_or-any xs i a b (omega (arith, inside))

pub FindsEntry-at : (found : List Found) (rows : List EntryRow) (at place : ℕ) (row e : EntryRow) → place < length rows → row ≡ get_or rows place e → row.at ≡ at
    → FindsEntry (entries_of found rows) at (Some place)
FindsEntry-at found rows at place row e within here is = (
  entry_of_row found row,
  slice_get-map (entry_of_row found) rows place ∙ ap (option_map (entry_of_row found)) (slice_get_read rows (length rows) place row refl within (here ∙ get_or-any rows place e row within)),
  is,
)

-- Rows in order, and the first of them that does not begin before an offset.
pub rows-rise : (rows : List EntryRow) → Ascend rows → IsNonDecreasingBy (λ row. row.at) rows
rows-rise rows ascend i j d before within =
    elim (cases_lt i j) [
      | inl less ↦ let below = ascend i j d less within in omega (arith, below)
      | inr not_less ↦ let same : i ≡ j = omega (arith, before, not_less) in rw same (omega arith)
    ]

-- The rows before a place begin before an offset, and those from there on do not.
pub record IsFirstFrom (rows : List EntryRow) (place at : ℕ) : Type 0 where
  pub before : (k : ℕ) (d : EntryRow) → k < place → k < length rows → (get_or rows k d).at < at
  pub behind : (k : ℕ) (d : EntryRow) → place ≤ k → k < length rows → at ≤ (get_or rows k d).at

pub first_from : (rows : List EntryRow) (place at : ℕ) → IsPartitionPoint (λ row. ltb row.at at ≡ true) (λ row. ltb row.at at ≡ false) rows place → IsFirstFrom rows place at
first_from rows place at point = record {
  before = λ k d below within. ltb-true _ _ (point.0 k d (omega arith) below);
  behind = λ k d from within. ltb-false _ _ (point.1 k d from within);
}

no_place : (rows : List EntryRow) (at : ℕ) → ((k : ℕ) (d : EntryRow) → k < length rows → (get_or rows k d).at ≢ at) → position_or_len (λ (r : EntryRow). r.at == at) rows ≡ length rows
no_place [] at apart = refl
no_place (row ∷ rows) at apart =
    let first = ne_eqb row.at at (apart 0 row (omega arith)) in
    let rest = no_place rows at (λ k d within. apart (suc k) d (omega (arith, within))) in
    rw first (omega (arith, rest))

-- no row begins at the offset, so no entry does
finds-none : (found : List Found) (rows : List EntryRow) (at : ℕ) → ((k : ℕ) (d : EntryRow) → k < length rows → (get_or rows k d).at ≢ at) → FindsEntry (entries_of found rows) at None
finds-none found rows at apart =
    position-rows found rows at
    ∙ ap (λ (n : ℕ). cond (nat_lt n (length rows)) (Some n) None) (no_place rows at apart)
    ∙ ap (λ b. cond b (Some (length rows)) None) (le-ltb (length rows) (length rows) (omega arith))

pub FindsEntry-miss : (found : List Found) (rows : List EntryRow) (at place : ℕ) (row e : EntryRow) → Ascend rows → place < length rows → row ≡ get_or rows place e → IsFirstFrom rows place at → row.at ≢ at
    → FindsEntry (entries_of found rows) at None
FindsEntry-miss found rows at place row e ascend within here first apart =
    finds-none found rows at (λ k d inside same. elim (cases_lt k place) [
      | inl before ↦ let below = first.before k d before inside in absurd (omega (arith, below, same))
      | inr behind ↦
          let at_place : row.at ≡ (get_or rows place d).at = ap (λ (r : EntryRow). r.at) (here ∙ get_or-any rows place e d within) in
          let from = first.behind place d (omega arith) within in
          let rise = rows-rise rows ascend place k d (omega (arith, behind)) inside in
          apart (omega (arith, at_place, from, rise, same))
    ])

pub FindsEntry-none : (found : List Found) (rows : List EntryRow) (at place : ℕ) → length rows ≤ place → IsFirstFrom rows place at → FindsEntry (entries_of found rows) at None
FindsEntry-none found rows at place past first =
    finds-none found rows at (λ k d inside same. let below = first.before k d (omega (arith, past, inside)) inside in omega (arith, below, same))

-- ---- rows of entries that stand in order

pub rows-ascend : (found : List Found) (rows : List EntryRow) → AllPairs (λ (before after : Entry). before.at < after.at) (entries_of found rows) → Ascend rows
rows-ascend found rows ascend i j d less within =
    let long = length-map rows (entry_of_row found) in
    let e = entry_of_row found d in
    let below = ascend i j e less (omega (arith, within, long)) in
    let first : (get_or (entries_of found rows) i e).at ≡ (get_or rows i d).at = ap (λ (e : Entry). e.at) (get_or-map (entry_of_row found) rows i d e (omega (arith, less, within))) in
    let second : (get_or (entries_of found rows) j e).at ≡ (get_or rows j d).at = ap (λ (e : Entry). e.at) (get_or-map (entry_of_row found) rows j d e within) in
    omega (arith, below, first, second)

pub no_rows-ascend : Ascend []
no_rows-ascend i j d less within = absurd (omega (arith, within))
