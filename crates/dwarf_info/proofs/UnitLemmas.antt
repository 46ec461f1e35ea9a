-- The units, one by one.
use Rattle.std.proofs.Common.{◌≡◌, ℕ, ◌+◌, ◌<◌, ◌≤◌, ◌^◌, Bool, false, cond, nat_lt, List, length, take, drop, Option, None, Result, Ok, Err, refl, sym, ap, subst, ◌∙◌, arith}
use Rattle.std.specs.Result.{IsErrAnd}
use Rattle.std.proofs.lemmas.Bool.{le-ltb}
use Rattle.std.proofs.lemmas.List.{length-append, length-take}
use Rattle.byte_view.specs.declared.fault.ViewFault.{ViewFault}
use Rattle.byte_view.specs.declared.fault.ViewFault.TheVariants.{Short}
use Rattle.byte_view.specs.declared.part.Part.{Part}
use Rattle.byte_view.specs.Part.{bytes_of_part}
use Rattle.byte_view.specs.Cursor.{Cursor, Reads}
use Rattle.byte_view.specs.Reading.{Reading, SpellsRun, run_at}
use Rattle.refusal.specs.declared.place.Stop.{Stop}
use Rattle.refusal.specs.declared.place.Stop.TheVariants.{Refused, NoMemory}
use Rattle.refusal.specs.Place.{JudgesUnlessNoMemory}
use Rattle.placed_view.specs.Reader.{Read, Reader, IsRead as IsReadValue, behind, within, piece_of, cursor_behind, refused_at, start_of}
use Rattle.placed_view.specs.Steps.{step_if_left, while_left}
use Rattle.placed_view.proofs.StepLemmas.{GoesOn, GoesOn-start, GoesOn-more, GoesOn-end, GoesOn-bad, step_if_left-some, step_if_left-bad, step_if_left-none}
use Rattle.unit_model.specs.Header.{unit_length}
use Rattle.unit_model.specs.Units as model
use Rattle.dwarf_info.specs.declared.rows.Entries.{Entries}
use Rattle.dwarf_info.specs.declared.rows.UnitsRead.{UnitsRead}
use Rattle.dwarf_info.specs.declared.units.Extent.{Extent}
use Rattle.dwarf_info.specs.Entries.{all_of, IsWhole}
use Rattle.dwarf_info.specs.Units.{units_of, extent_of, IsRead, IsReadTo, ReadsUnit, ReadsNext, SkipsUnit}
use Rattle.entry_model.proofs.OrderLemmas.{entries-in_order, units-share_entries}
use Rattle.dwarf_abbrev.proofs.TableLemmas.{stopped}
use Rattle.dwarf_info.specs.Kept.{AreKept}

skipped-is : (old new : UnitsRead) (extent : Extent) → SkipsUnit old new extent → units_of new ≡ model.with_skipped (extent_of extent) (units_of old)
skipped-is old new extent skips =
    ap (λ (us : List model.Unit). record { units = us; entries = all_of new.entries; skipped = new.skipped.items }) skips.units
    ∙ ap (λ (e : Entries). record { units = old.units.items; entries = all_of e; skipped = new.skipped.items }) skips.entries
    ∙ ap (λ (s : List (ℕ × ℕ)). record { units = old.units.items; entries = all_of old.entries; skipped = s }) skips.skipped

-- a unit that was passed over
pub IsRead-skipped : (old new : UnitsRead) (extent : Extent) (cur : Cursor) → IsWhole old.entries → SkipsUnit old new extent
    → IsRead old new (Ok (model.with_skipped (extent_of extent) (units_of old), cur))
IsRead-skipped old new extent cur whole skips = record {
  whole = subst IsWhole (sym skips.entries) whole;
  one_more = omega (arith, ap (λ (us : List model.Unit). length us) skips.units);
  cur = cur;
  is = ap (λ (u : model.Units). Ok (u, cur)) (sym (skipped-is old new extent skips));
}

pub ruleset skip_lemmas = (IsRead-skipped)

-- ---- the next unit

no_cut : (size : ℕ) (left : List ℕ) (fault : ViewFault) → size ≤ length left → run_at size left ≡ Err fault → ⊥
unfolding run_at
no_cut size left fault fits cut = let read = rw (le-ltb (length left) size fits) at cut in cc

pub never_cut : {P : Type 0} (size : ℕ) (left : List ℕ) (fault : ViewFault) → size ≤ length left → run_at size left ≡ Err fault → P
never_cut size left fault fits cut = absurd (no_cut size left fault fits cut)

run-is : (size : ℕ) (left run rest : List ℕ) → size ≤ length left → run_at size left ≡ Ok (run, rest) → (run ≡ take size left) × (rest ≡ drop size left)
unfolding run_at
run-is size left run rest fits is =
    let room : nat_lt (length left) size ≡ false = le-ltb (length left) size fits in
    let e : ◌≡◌ {A = Reading (List ℕ)} (Ok (run, rest)) (Ok (take size left, drop size left)) = sym is ∙ ap (λ b. cond b (Err Short) (Ok (take size left, drop size left))) room in
    let pair : ◌≡◌ {A = List ℕ × List ℕ} (run, rest) (take size left, drop size left) = cc in
    (ap (λ (p : List ℕ × List ℕ). p.0) pair, ap (λ (p : List ℕ × List ℕ). p.1) pair)

next_unit-is : (section : Option Cursor) (before : model.Units) (cur mid : Cursor) (wide : Bool) (size : ℕ) → unit_length cur ≡ Ok ((wide, size), mid)
    → model.next_unit section before cur ≡ within size (model.unit_body section (record { at = cur.at; end = mid.at + size; wide = wide }) size before) mid
unfolding model.next_unit
next_unit-is section before cur mid wide size e = rw e refl

within-read : (reader : Reader model.Units) (size : ℕ) (mid : Cursor) (old new : UnitsRead) (r : Result (Unit {0}) Stop) → ReadsUnit r old new (reader (piece_of size mid))
    → ReadsNext r old new (cursor_behind size mid) (within size reader mid)
within-read reader size mid old new (Ok done) read = record {
  whole = read.whole;
  one_more = read.one_more;
  is = ap (λ (x : Read model.Units). behind x (λ u _. Ok (u, cursor_behind size mid))) read.is;
}
within-read reader size mid old new (Err (Refused place)) read = ap (λ (x : Read model.Units). behind x (λ u _. Ok (u, cursor_behind size mid))) read
within-read reader size mid old new (Err NoMemory) read = tt

-- the next unit, in a piece of its own
pub ReadsNext-body : (section : Option Cursor) (old new : UnitsRead) (cur mid body next : Cursor) (extent : Extent) (size : ℕ) (r : Result (Unit {0}) Stop)
    → unit_length cur ≡ Ok ((extent.shape.wide, size), mid) → size ≤ length mid.left → extent.at ≡ cur.at → extent.end ≡ mid.at + size
    → body.at ≡ mid.at → run_at size mid.left ≡ Ok (body.left, next.left) → Reads (SpellsRun size) mid next body.left
    → ReadsUnit r old new (model.unit_body section (extent_of extent) size (units_of old) body)
    → ReadsNext r old new next (model.next_unit section (units_of old) cur)
ReadsNext-body section old new cur mid body next extent size r length_is fits at_is end_is body_at run passes read =
    let e = run-is size mid.left body.left next.left fits run in
    let piece : body ≡ piece_of size mid = ap (λ (n : ℕ). record { at = n; left = body.left }) body_at ∙ ap (λ (l : List ℕ). record { at = mid.at; left = l }) e.0 in
    let at : next.at ≡ mid.at + size = passes.passed.at ∙ ap (λ (n : ℕ). mid.at + n) passes.spelled.sized in
    let to : next ≡ cursor_behind size mid = ap (λ (n : ℕ). record { at = n; left = next.left }) at ∙ ap (λ (l : List ℕ). record { at = mid.at + size; left = l }) e.1 in
    let place : ◌≡◌ {A = model.Extent} (extent_of extent) (record { at = cur.at; end = mid.at + size; wide = extent.shape.wide }) =
    ap (λ (n : ℕ). record { at = n; end = extent.end; wide = extent.shape.wide }) at_is ∙ ap (λ (n : ℕ). record { at = cur.at; end = n; wide = extent.shape.wide }) end_is in
    let there : ReadsUnit r old new (model.unit_body section (record { at = cur.at; end = mid.at + size; wide = extent.shape.wide }) size (units_of old) (piece_of size mid)) =
    subst (λ (c : Cursor). ReadsUnit r old new (model.unit_body section (record { at = cur.at; end = mid.at + size; wide = extent.shape.wide }) size (units_of old) c)) piece
    (subst (λ (x : model.Extent). ReadsUnit r old new (model.unit_body section x size (units_of old) body)) place read) in
    subst (λ (c : Cursor). ReadsNext r old new c (model.next_unit section (units_of old) cur)) (sym to)
    (subst (λ (x : Read model.Units). ReadsNext r old new (cursor_behind size mid) x) (sym (next_unit-is section (units_of old) cur mid extent.shape.wide size length_is))
    (within-read (model.unit_body section (record { at = cur.at; end = mid.at + size; wide = extent.shape.wide }) size (units_of old)) size mid old new r there))

pub shorter-piece : (size : ℕ) (mid next : Cursor) (run : List ℕ) → Reads (SpellsRun size) mid next run → length next.left ≤ length mid.left
shorter-piece size mid next run passes = omega (arith, ap length passes.passed.left, length-append passes.bytes next.left)

-- ---- the units so far

pub record UnitsSoFar (section : Option Cursor) (start : Cursor) (so_far : UnitsRead) (cur : Cursor) : Type 0 where
  pub whole : IsWhole so_far.entries
  pub few : length so_far.units.items + length cur.left ≤ length start.left
  pub on : GoesOn (step_if_left (model.next_unit section)) (while_left (model.next_unit section) model.no_units start) (units_of so_far) cur

pub UnitsSoFar-none : (section : Option Cursor) (part : Part) (so_far : UnitsRead) (cur : Cursor) → IsWhole so_far.entries → units_of so_far ≡ model.no_units → length so_far.units.items ≡ 0
    → cur.at ≡ part.at → cur.left ≡ bytes_of_part part → UnitsSoFar section (start_of part) so_far cur
UnitsSoFar-none section part so_far cur whole none zero_units at left =
    let here : start_of part ≡ cur = ap (λ (n : ℕ). record { at = n; left = bytes_of_part part }) (sym at) ∙ ap (λ (l : List ℕ). record { at = cur.at; left = l }) (sym left) in
    record {
      whole = whole;
      few = omega (arith, zero_units, ap (λ (c : Cursor). length c.left) here);
      on = subst (λ (u : model.Units). GoesOn (step_if_left (model.next_unit section)) (while_left (model.next_unit section) model.no_units (start_of part)) u cur) (sym none)
          (subst (λ (c : Cursor). GoesOn (step_if_left (model.next_unit section)) (while_left (model.next_unit section) model.no_units (start_of part)) model.no_units c) here
          (GoesOn-start (step_if_left (model.next_unit section)) model.no_units (start_of part)));
    }

pub UnitsSoFar-more : (section tables : Option Cursor) (start : Cursor) (old new : UnitsRead) (cur next : Cursor) → tables ≡ section → UnitsSoFar section start old cur → 0 < length cur.left
    → IsReadTo old new next (model.next_unit tables (units_of old) cur) → length next.left < length cur.left → UnitsSoFar section start new next
UnitsSoFar-more section tables start old new cur next same so_far some is less =
    let read : IsReadTo old new next (model.next_unit section (units_of old) cur) = subst (λ (s : Option Cursor). IsReadTo old new next (model.next_unit s (units_of old) cur)) same is in
    record {
      whole = read.whole;
      few = omega (arith, so_far.few, read.one_more, less);
      on = GoesOn-more (step_if_left (model.next_unit section)) _ _ _ cur next so_far.on (step_if_left-some (model.next_unit section) _ _ cur next some read.is) less;
    }

pub UnitsSoFar-end : (section : Option Cursor) (start : Cursor) (so_far : UnitsRead) (cur : Cursor) → UnitsSoFar section start so_far cur → length cur.left ≡ 0
    → (refused_at (model.units section start) ≡ None) × IsReadValue (model.units section start) (units_of so_far)
unfolding model.units
UnitsSoFar-end section start so_far cur on none =
    let is = GoesOn-end (step_if_left (model.next_unit section)) _ _ cur cur on.on (step_if_left-none (model.next_unit section) _ cur none) in
    (ap refused_at is, (cur, is))

-- what holds of all units
pub UnitsSoFar-kept : (section : Option Cursor) (part : Part) (so_far : UnitsRead) (cur : Cursor) → part.len ≤ 2 ^ 30 → part.at + part.len ≤ 2 ^ 64
    → UnitsSoFar section (start_of part) so_far cur → length cur.left ≡ 0 → AreKept (units_of so_far)
UnitsSoFar-kept section part so_far cur short fits on none =
    let end = UnitsSoFar-end section (start_of part) so_far cur on none in
    let order = entries-in_order section (start_of part) end.1.0 (units_of so_far) end.1.1 in
    let shared = units-share_entries section (start_of part) end.1.0 (units_of so_far) end.1.1 in
    let long = length-take part.len (drop part.at part.file.now) in
    record {
      order = record {
        ascending = order.ascending;
        within = λ k d within. let before = (order.within k d within).1 in (omega arith, omega (arith, before, long, fits));
      };
      few_units = omega (arith, on.few, long, short);
      few_entries = shared.1;
      shared = shared.0;
    }

-- no units
pub kept-none : AreKept model.no_units
kept-none = record {
  order = record {
    ascending = λ i j d less within. absurd (omega (arith, within));
    within = λ k d within. absurd (omega (arith, within));
  };
  few_units = omega arith;
  few_entries = omega arith;
  shared = refl;
}

bad : (section : Option Cursor) (start : Cursor) (old new : UnitsRead) (cur next : Cursor) (why : Stop) → UnitsSoFar section start old cur → 0 < length cur.left
    → ReadsNext (Err why) old new next (model.next_unit section (units_of old) cur)
    → JudgesUnlessNoMemory {T = model.Units} (refused_at (model.units section start)) (Err why) (IsReadValue (model.units section start))
unfolding model.units
bad section start old new cur next (Refused place) on some read =
    ap refused_at (GoesOn-bad (step_if_left (model.next_unit section)) _ _ cur place on.on (step_if_left-bad (model.next_unit section) _ cur place some read))
bad section start old new cur next NoMemory on some read = tt

pub UnitsSoFar-stop : (section tables : Option Cursor) (start : Cursor) (old new : UnitsRead) (cur next : Cursor) (why : Stop) (r : Result model.Units Stop) → tables ≡ section → UnitsSoFar section start old cur
    → 0 < length cur.left → ReadsNext (Err why) old new next (model.next_unit tables (units_of old) cur) → IsErrAnd r (λ s. s ≡ why)
    → JudgesUnlessNoMemory (refused_at (model.units section start)) r (IsReadValue (model.units section start))
UnitsSoFar-stop section tables start old new cur next why r same on some read is =
    subst (λ (x : Result model.Units Stop). JudgesUnlessNoMemory (refused_at (model.units section start)) x (IsReadValue (model.units section start))) (sym (stopped r why is))
    (bad section start old new cur next why on some (subst (λ (s : Option Cursor). ReadsNext (Err why) old new next (model.next_unit s (units_of old) cur)) same read))
