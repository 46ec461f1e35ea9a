-- The entries of a unit, one by one.
use Rattle.std.proofs.Common.{◌≡◌, ℕ, ◌+◌, ◌-◌, ◌<◌, ◌≤◌, Bool, true, false, cond, nat_lt, nat_le, List, [], ◌∷◌, ◌++◌, length, take, drop, None, Some, Result, Ok, Err, refl, sym, ap, subst, ◌∙◌, arith}
use Rattle.std.specs.Prelude.{slice_range}
use Rattle.std.proofs.lemmas.List.{length-append, length-drop, drop-append-le, take-append-le, map-append, drop_at, take_all, length-map}
use Rattle.byte_view.specs.Cursor.{Cursor}
use Rattle.refusal.specs.declared.place.Place.{Place}
use Rattle.placed_view.specs.Reader.{behind, gives}
use Rattle.placed_view.specs.Steps.{step_if_left, while_left}
use Rattle.placed_view.proofs.StepLemmas.{GoesOn, GoesOn-start, GoesOn-more, GoesOn-end, GoesOn-bad, step_if_left-some, step_if_left-bad, step_if_left-none}
use Rattle.std.proofs.lemmas.Bool.{leb-false}
use Rattle.std.specs.Result.{IsErrAnd}
use Rattle.refusal.specs.declared.kind.Kind.TheVariants.{TooManyEntries}
use Rattle.refusal.specs.declared.place.Stop.{Stop}
use Rattle.refusal.specs.declared.place.Stop.TheVariants.{Refused, NoMemory}
use Rattle.refusal.specs.Place.{fails_at, in_binary}
use Rattle.refusal.proofs.PlaceLemmas.{fails_at-none}
use Rattle.dwarf_info.specs.Values.{ReadsValues}
use Rattle.unit_model.specs.Abbrev.{Abbrev}
use Rattle.unit_model.specs.Values.{Found, values}
use Rattle.unit_model.specs.Entries.{Entry, InUnit, SoFar, max_entries, entry_of, next_entry, entries}
use Rattle.dwarf_abbrev.proofs.TableLemmas.{stopped}
use Rattle.dwarf_info.specs.declared.rows.EntryRow.{EntryRow}
use Rattle.dwarf_info.specs.declared.rows.Entries.{Entries}
use Rattle.dwarf_info.specs.Rows.{entry_of_row, IsWithin, entries_of, AreWithin, row_made}
use Rattle.dwarf_info.specs.Entries.{all_of, IsWhole, ReadsSoFar, ReadsEntries}

-- ---- more attributes

row-kept : (found more : List Found) (row : EntryRow) → IsWithin found row → entry_of_row (found ++ more) row ≡ entry_of_row found row
row-kept found more row w =
    let d : drop row.first (found ++ more) ≡ drop row.first found ++ more = drop-append-le row.first found more (omega (arith, w.within)) in
    let n : row.first + row.count - row.first ≤ length (drop row.first found) = omega (arith, length-drop row.first found, w.within) in
    ap (λ (fs : List Found). record { at = row.at; depth = row.depth; tag = row.tag; unit = row.unit; found = fs })
    (ap (take (row.first + row.count - row.first)) d ∙ take-append-le (row.first + row.count - row.first) (drop row.first found) more n)

rows-kept : (found more : List Found) (rows : List EntryRow) → AreWithin found rows → entries_of (found ++ more) rows ≡ entries_of found rows
rows-kept found more [] w = refl
rows-kept found more (row ∷ rows) w =
    ap (λ (e : Entry). e ∷ entries_of (found ++ more) rows) (row-kept found more row w.0) ∙ ap (λ (es : List Entry). entry_of_row found row ∷ es) (rows-kept found more rows w.1)

within-more : (found more : List Found) (rows : List EntryRow) (row : EntryRow) → AreWithin found rows → IsWithin (found ++ more) row → AreWithin (found ++ more) (rows ++ row ∷ [])
within-more found more [] row w here = (here, tt)
within-more found more (r ∷ rows) row w here = (
  record { within = omega (arith, w.0.within, length-append found more) },
  within-more found more rows row w.1 here,
)

last_range : (found more : List Found) (first end : ℕ) → first ≡ length found → end ≡ length (found ++ more) → slice_range (found ++ more) first end ≡ more
last_range found more first end at to =
    ap (take (end - first)) (drop_at found more first (sym at)) ∙ take_all (end - first) more (omega (arith, length-append found more))

-- An entry stands behind the others.
pub record AddsEntry (old new : Entries) (entry : Entry) : Type 0 where
  pub whole : IsWhole new
  pub all : all_of new ≡ all_of old ++ entry ∷ []

pub AddsEntry-row : (old new : Entries) (row : EntryRow) (own mid : List Found) → IsWhole old → length old.rows.items < 16777216 → mid ≡ old.found ++ own → new.found ≡ mid → new.rows.items ≡ old.rows.items ++ row ∷ []
    → row.first ≡ length old.found → row.count ≡ length mid - row.first
    → AddsEntry old new (record { at = row.at; depth = row.depth; tag = row.tag; unit = row.unit; found = own })
AddsEntry-row old new row own mid whole more mid_is found_is rows first count =
    let found : new.found ≡ old.found ++ own = found_is ∙ mid_is in
    let to : row.first + row.count ≡ length (old.found ++ own) = omega (arith, first, count, ap (λ (fs : List Found). length fs) mid_is, length-append old.found own) in
    let here : IsWithin (old.found ++ own) row = record { within = omega (arith, to) } in
    record {
      whole = record {
        within = subst (λ (fs : List Found). AreWithin fs new.rows.items) (sym found)
            (subst (λ (rs : List EntryRow). AreWithin (old.found ++ own) rs) (sym rows) (within-more old.found own old.rows.items row whole.within here));
        few = omega (arith, more, ap (λ (rs : List EntryRow). length rs) rows, length-append old.rows.items (row ∷ []));
      };
      all = ap (λ (fs : List Found). entries_of fs new.rows.items) found
          ∙ ap (λ (rs : List EntryRow). entries_of (old.found ++ own) rs) rows
          ∙ map-append (entry_of_row (old.found ++ own)) old.rows.items (row ∷ [])
          ∙ ap (λ (es : List Entry). es ++ entry_of_row (old.found ++ own) row ∷ []) (rows-kept old.found own old.rows.items whole.within)
          ∙ ap (λ (fs : List Found). all_of old ++ record { at = row.at; depth = row.depth; tag = row.tag; unit = row.unit; found = fs } ∷ []) (last_range old.found own row.first (row.first + row.count) first to);
    }

-- whether the file has as many entries as there can be
pub is_full-is : (entries : Entries) → nat_le max_entries (length (all_of entries)) ≡ nat_le 16777216 (length entries.rows.items)
is_full-is entries = ap (nat_le max_entries) (length-map entries.rows.items (entry_of_row entries.found))

pub ruleset entry_lemmas = (is_full-is)

entry_of-ok : (of : InUnit) (at : ℕ) (kind : Abbrev) (so_far : SoFar) (cur next : Cursor) (own : List Found) → nat_lt 1024 so_far.depth ≡ false → nat_le max_entries (length so_far.entries) ≡ false
    → values of.wide kind.tag kind.attrs cur ≡ Ok (own, next)
    → entry_of of at kind so_far cur
    ≡ Ok (
      (record {
        depth = cond kind.children (so_far.depth + 1) so_far.depth;
        entries = so_far.entries ++ record { at = at; depth = so_far.depth; tag = kind.tag; unit = of.unit; found = own } ∷ [];
      }),
      next,
    )
unfolding entry_of
entry_of-ok of at kind so_far cur next own shallow room e = rw (shallow, room, e) refl

-- An entry was read and stands behind the others.
pub entry-read : (of : InUnit) (at : ℕ) (kind : Abbrev) (old new : Entries) (depth deeper count first own_count : ℕ) (row : EntryRow) (cur next : Cursor) (own mid : List Found) (p q : Place) → IsWhole old
    → fails_at (nat_lt 1024 depth) p ≡ None → fails_at (nat_le 16777216 count) q ≡ None → count ≡ length old.rows.items
    → values of.wide kind.tag kind.attrs cur ≡ Ok (own, next) → mid ≡ old.found ++ own → new.found ≡ mid
    → new.rows.items ≡ old.rows.items ++ row ∷ [] → row ≡ row_made at kind.tag depth of.unit first own_count
    → first ≡ length old.found → own_count ≡ length mid - first → deeper ≡ cond kind.children (depth + 1) depth
    → IsWhole new × (entry_of of at kind (record { depth = depth; entries = all_of old }) cur ≡ Ok ((record { depth = deeper; entries = all_of new }), next))
entry-read of at kind old new depth deeper count first own_count row cur next own mid p q whole shallow room counted read mid_is found_is rows row_is first_is own_is deeper_is =
    let few : nat_le max_entries (length (all_of old)) ≡ false = is_full-is old ∙ ap (nat_le 16777216) (sym counted) ∙ fails_at-none (nat_le 16777216 count) q room in
    let made = rows ∙ ap (λ (r : EntryRow). old.rows.items ++ r ∷ []) row_is in
    let adds = AddsEntry-row old new (row_made at kind.tag depth of.unit first own_count) own mid whole (leb-false 16777216 (length old.rows.items) (sym (is_full-is old) ∙ few)) mid_is found_is made first_is own_is in (
      adds.whole,
      entry_of-ok of at kind (record { depth = depth; entries = all_of old }) cur next own (fails_at-none (nat_lt 1024 depth) p shallow) few read
          ∙ ap (λ (n : ℕ). Ok ((record { depth = n; entries = all_of old ++ record { at = at; depth = depth; tag = kind.tag; unit = of.unit; found = own } ∷ [] }), next)) (sym deeper_is)
          ∙ ap (λ (es : List Entry). Ok ((record { depth = deeper; entries = es }), next)) (sym adds.all),
    )

-- ---- the entries of a unit so far

pub record EntriesSoFar (of : InUnit) (table : List Abbrev) (before : List Entry) (start : Cursor) (new : Entries) (depth : ℕ) (cur : Cursor) : Type 0 where
  pub whole : IsWhole new
  pub on : GoesOn (step_if_left (next_entry of table)) (while_left (next_entry of table) (record { depth = 0; entries = before }) start) (record { depth = depth; entries = all_of new }) cur

pub EntriesSoFar-none : (of : InUnit) (table : List Abbrev) (start : Cursor) (new : Entries) → IsWhole new → EntriesSoFar of table (all_of new) start new 0 start
EntriesSoFar-none of table start new whole = record { whole = whole; on = GoesOn-start (step_if_left (next_entry of table)) (record { depth = 0; entries = all_of new }) start }

pub EntriesSoFar-more : (of : InUnit) (table : List Abbrev) (before : List Entry) (start : Cursor) (old new : Entries) (depth deeper : ℕ) (cur next : Cursor) → EntriesSoFar of table before start old depth cur
    → 0 < length cur.left → IsWhole new → next_entry of table (record { depth = depth; entries = all_of old }) cur ≡ Ok (record { depth = deeper; entries = all_of new }, next)
    → length next.left < length cur.left → EntriesSoFar of table before start new deeper next
EntriesSoFar-more of table before start old new depth deeper cur next so_far some whole read less = record {
  whole = whole;
  on = GoesOn-more (step_if_left (next_entry of table)) _ _ _ cur next so_far.on (step_if_left-some (next_entry of table) _ _ cur next some read) less;
}

pub EntriesSoFar-bad : (of : InUnit) (table : List Abbrev) (before : List Entry) (start : Cursor) (old : Entries) (depth : ℕ) (cur : Cursor) (place : Place) → EntriesSoFar of table before start old depth cur
    → 0 < length cur.left → next_entry of table (record { depth = depth; entries = all_of old }) cur ≡ Err place → entries of table before start ≡ Err place
unfolding entries
EntriesSoFar-bad of table before start old depth cur place so_far some bad =
    ap (λ r. behind r (λ (all : SoFar). gives all.entries))
    (GoesOn-bad (step_if_left (next_entry of table)) _ _ cur place so_far.on (step_if_left-bad (next_entry of table) _ cur place some bad))

pub EntriesSoFar-end : (of : InUnit) (table : List Abbrev) (before : List Entry) (start : Cursor) (new : Entries) (depth : ℕ) (cur : Cursor) → EntriesSoFar of table before start new depth cur → length cur.left ≡ 0
    → entries of table before start ≡ Ok (all_of new, cur)
unfolding entries
EntriesSoFar-end of table before start new depth cur so_far none =
    ap (λ r. behind r (λ (all : SoFar). gives all.entries))
    (GoesOn-end (step_if_left (next_entry of table)) _ _ cur cur so_far.on (step_if_left-none (next_entry of table) _ cur none))

-- ---- what stops an entry, and the entries

refused : (cause : Bool) (p told : Place) → fails_at cause p ≡ Some told → (cause ≡ true) × (p ≡ told)
refused true p told is = (refl, cc)
refused false p told is = absurd cc

entry_of-full : (of : InUnit) (at : ℕ) (kind : Abbrev) (so_far : SoFar) (cur : Cursor) → nat_lt 1024 so_far.depth ≡ false → nat_le max_entries (length so_far.entries) ≡ true
    → entry_of of at kind so_far cur ≡ Err (in_binary at TooManyEntries)
unfolding entry_of
entry_of-full of at kind so_far cur shallow full = rw (shallow, full) refl

entry_of-bad : (of : InUnit) (at : ℕ) (kind : Abbrev) (so_far : SoFar) (cur : Cursor) (place : Place) → nat_lt 1024 so_far.depth ≡ false → nat_le max_entries (length so_far.entries) ≡ false
    → values of.wide kind.tag kind.attrs cur ≡ Err place → entry_of of at kind so_far cur ≡ Err place
unfolding entry_of
entry_of-bad of at kind so_far cur place shallow room e = rw (shallow, room, e) refl

pub entry-full : (of : InUnit) (at : ℕ) (kind : Abbrev) (old new : Entries) (depth count : ℕ) (cur next : Cursor) (p q told : Place) (r : Result ℕ Stop)
    → fails_at (nat_lt 1024 depth) p ≡ None → q ≡ in_binary at TooManyEntries → fails_at (nat_le 16777216 count) q ≡ Some told → count ≡ length old.rows.items → IsErrAnd r (λ s. s ≡ Refused told)
    → ReadsSoFar r new next (entry_of of at kind (record { depth = depth; entries = all_of old }) cur)
entry-full of at kind old new depth count cur next p q told r shallow here full counted why =
    let is = refused (nat_le 16777216 count) q told full in
    let many : nat_le max_entries (length (all_of old)) ≡ true = is_full-is old ∙ ap (nat_le 16777216) (sym counted) ∙ is.0 in
    subst (λ (x : Result ℕ Stop). ReadsSoFar x new next (entry_of of at kind (record { depth = depth; entries = all_of old }) cur)) (sym (stopped r (Refused told) why))
    (entry_of-full of at kind (record { depth = depth; entries = all_of old }) cur (fails_at-none (nat_lt 1024 depth) p shallow) many ∙ ap Err (sym here ∙ is.1))

entry_stop : (of : InUnit) (at : ℕ) (kind : Abbrev) (so_far : SoFar) (new : Entries) (old_found new_found : List Found) (cur mid next : Cursor) (why : Stop)
    → nat_lt 1024 so_far.depth ≡ false → nat_le max_entries (length so_far.entries) ≡ false
    → ReadsValues (Err why) old_found new_found mid (values of.wide kind.tag kind.attrs cur) → ReadsSoFar (Err why) new next (entry_of of at kind so_far cur)
entry_stop of at kind so_far new old_found new_found cur mid next (Refused place) shallow room read = entry_of-bad of at kind so_far cur place shallow room read
entry_stop of at kind so_far new old_found new_found cur mid next NoMemory shallow room read = tt

pub entry-stop : (of : InUnit) (at : ℕ) (kind : Abbrev) (old new : Entries) (old_found new_found : List Found) (depth count : ℕ) (cur mid next : Cursor) (p q : Place) (why : Stop) (r : Result ℕ Stop)
    → fails_at (nat_lt 1024 depth) p ≡ None → fails_at (nat_le 16777216 count) q ≡ None → count ≡ length old.rows.items
    → ReadsValues (Err why) old_found new_found mid (values of.wide kind.tag kind.attrs cur) → IsErrAnd r (λ s. s ≡ why)
    → ReadsSoFar r new next (entry_of of at kind (record { depth = depth; entries = all_of old }) cur)
entry-stop of at kind old new old_found new_found depth count cur mid next p q why r shallow room counted read is =
    let few : nat_le max_entries (length (all_of old)) ≡ false = is_full-is old ∙ ap (nat_le 16777216) (sym counted) ∙ fails_at-none (nat_le 16777216 count) q room in
    subst (λ (x : Result ℕ Stop). ReadsSoFar x new next (entry_of of at kind (record { depth = depth; entries = all_of old }) cur)) (sym (stopped r why is))
    (entry_stop of at kind (record { depth = depth; entries = all_of old }) new old_found new_found cur mid next why (fails_at-none (nat_lt 1024 depth) p shallow) few read)

entries_stop : (of : InUnit) (table : List Abbrev) (before : List Entry) (start : Cursor) (old new : Entries) (depth : ℕ) (cur next : Cursor) (why : Stop) → EntriesSoFar of table before start old depth cur
    → 0 < length cur.left → ReadsSoFar (Err why) new next (next_entry of table (record { depth = depth; entries = all_of old }) cur)
    → ReadsEntries (Err why) new (entries of table before start)
entries_stop of table before start old new depth cur next (Refused place) so_far some read = EntriesSoFar-bad of table before start old depth cur place so_far some read
entries_stop of table before start old new depth cur next NoMemory so_far some read = tt

pub EntriesSoFar-stop : (of : InUnit) (table : List Abbrev) (before : List Entry) (start : Cursor) (old new : Entries) (depth : ℕ) (cur next : Cursor) (why : Stop) (r : Result (Unit {0}) Stop)
    → EntriesSoFar of table before start old depth cur → 0 < length cur.left
    → ReadsSoFar (Err why) new next (next_entry of table (record { depth = depth; entries = all_of old }) cur) → IsErrAnd r (λ s. s ≡ why)
    → ReadsEntries r new (entries of table before start)
EntriesSoFar-stop of table before start old new depth cur next why r so_far some read is =
    subst (λ (x : Result (Unit {0}) Stop). ReadsEntries x new (entries of table before start)) (sym (stopped r why is)) (entries_stop of table before start old new depth cur next why so_far some read)
