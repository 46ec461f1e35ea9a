-- A table that was read so far.
use Rattle.std.proofs.Common.{◌≡◌, ◌<◌, ℕ, Bool, true, false, List, [], length, None, Result, Ok, Err, sym, ap, subst, ◌∙◌}
use Rattle.std.specs.Result.{IsErrAnd}
use Rattle.byte_view.specs.declared.part.Part.{Part}
use Rattle.byte_view.specs.Cursor.{Cursor}
use Rattle.byte_view.specs.Part.{bytes_of_part}
use Rattle.refusal.specs.declared.place.Stop.{Stop}
use Rattle.refusal.specs.declared.place.Stop.TheVariants.{Refused, NoMemory}
use Rattle.refusal.specs.Place.{JudgesUnlessNoMemory}
use Rattle.placed_view.specs.Reader.{IsRead, refused_at, start_of}
use Rattle.placed_view.proofs.StepLemmas.{GoesOn, GoesOn-start, GoesOn-more, GoesOn-end, GoesOn-bad}
use Rattle.unit_model.specs.Abbrev.{Abbrev}
use Rattle.unit_model.specs.Table.{table, next_abbrev}
use Rattle.dwarf_abbrev.specs.declared.rows.AbbrevRows.{AbbrevRows}
use Rattle.dwarf_abbrev.specs.Rows.{table_of, IsWhole, ReadsNext}

-- The rows are those of the table that stands at the start, up to the cursor.
pub record TableSoFar (start : Cursor) (rows : AbbrevRows) (cur : Cursor) : Type 0 where
  pub whole : IsWhole rows
  pub on : GoesOn next_abbrev (table start) (table_of rows) cur

pub TableSoFar-none : (part : Part) (rows : AbbrevRows) (cur : Cursor) → IsWhole rows → table_of rows ≡ [] → cur.at ≡ part.at → cur.left ≡ bytes_of_part part → TableSoFar (start_of part) rows cur
unfolding table
TableSoFar-none part rows cur whole none at left =
    let here : start_of part ≡ cur = ap (λ (n : ℕ). record { at = n; left = bytes_of_part part }) (sym at) ∙ ap (λ (l : List ℕ). record { at = cur.at; left = l }) (sym left) in
    record {
      whole = whole;
      on = subst (λ (t : List Abbrev). GoesOn next_abbrev (table (start_of part)) t cur) (sym none)
          (subst (λ (c : Cursor). GoesOn next_abbrev (table (start_of part)) [] c) here (GoesOn-start next_abbrev [] (start_of part)));
    }

pub TableSoFar-more : (start : Cursor) (old new : AbbrevRows) (cur next : Cursor) (b : Bool) → TableSoFar start old cur → b ≡ true → ReadsNext (Ok b) old new next (next_abbrev (table_of old) cur)
    → length next.left < length cur.left → TableSoFar start new next
TableSoFar-more start old new cur next true so_far is read less =
    record { whole = read.0; on = GoesOn-more next_abbrev _ (table_of old) (table_of new) cur next so_far.on read.1 less }
TableSoFar-more start old new cur next false so_far is read less = absurd cc

pub TableSoFar-end : (start : Cursor) (old new : AbbrevRows) (cur next : Cursor) (b : Bool) → TableSoFar start old cur → b ≡ false → ReadsNext (Ok b) old new next (next_abbrev (table_of old) cur)
    → IsWhole new × (table start ≡ Ok (table_of new, next))
TableSoFar-end start old new cur next true so_far is read = absurd cc
TableSoFar-end start old new cur next false so_far is read = (
  subst IsWhole (sym read.0) so_far.whole,
  GoesOn-end next_abbrev _ (table_of old) cur next so_far.on read.1 ∙ ap (λ (r : AbbrevRows). Ok (table_of r, next)) (sym read.0),
)

pub judged_table : (start cur : Cursor) (list : List Abbrev) → table start ≡ Ok (list, cur) → (refused_at (table start) ≡ None) × IsRead (table start) list
judged_table start cur list is = (ap refused_at is, (cur, is))

pub stopped : {T : Type 0} (r : Result T Stop) (stop : Stop) → IsErrAnd r (λ s. s ≡ stop) → r ≡ Err stop
stopped (Ok x) stop is = absurd is
stopped (Err s) stop is = ap Err is

stop : (start : Cursor) (old new : AbbrevRows) (cur next : Cursor) (stop : Stop) → TableSoFar start old cur → ReadsNext (Err stop) old new next (next_abbrev (table_of old) cur)
    → JudgesUnlessNoMemory {T = List Abbrev} (refused_at (table start)) (Err stop) (IsRead (table start))
stop start old new cur next (Refused place) so_far read = ap refused_at (GoesOn-bad next_abbrev _ (table_of old) cur place so_far.on read)
stop start old new cur next NoMemory so_far read = tt

pub TableSoFar-stop : (start : Cursor) (old new : AbbrevRows) (cur next : Cursor) (why : Stop) (r : Result (List Abbrev) Stop) → TableSoFar start old cur → ReadsNext (Err why) old new next (next_abbrev (table_of old) cur)
    → IsErrAnd r (λ s. s ≡ why) → JudgesUnlessNoMemory (refused_at (table start)) r (IsRead (table start))
TableSoFar-stop start old new cur next why r so_far read is =
    subst (λ (x : Result (List Abbrev) Stop). JudgesUnlessNoMemory (refused_at (table start)) x (IsRead (table start))) (sym (stopped r why is)) (stop start old new cur next why so_far read)
