-- The rows of programs, one behind the other.
use Rattle.std.proofs.Common.{◌≡◌, ℕ, zero, suc, ◌+◌, ◌<◌, Bool, true, false, cond, List, [], ◌∷◌, ◌++◌, take, length, Option, None, Some, Result, Ok, Err, refl, sym, ap, subst, ◌∙◌, arith, add-zero, zero-add}
use Rattle.std.specs.Prelude.{slice_get}
use Rattle.std.proofs.lemmas.Bool.Decides.{nat_tests}
use Rattle.std.proofs.lemmas.List.{append-nil, append_assoc}
use Rattle.refusal.specs.declared.kind.Kind.{Kind}
use Rattle.refusal.specs.declared.kind.Kind.TheVariants.{TooManyRows}
use Rattle.refusal.specs.declared.place.Place.{Place}
use Rattle.byte_view.specs.Cursor.{Cursor}
use Rattle.unit_model.specs.Units.{Unit as UnitRead, Units}
use Rattle.line_model.specs.declared.row.Row.{Row}
use Rattle.line_model.specs.declared.operation.Operation.{Operation}
use Rattle.line_model.specs.Header.{Header}
use Rattle.line_model.specs.Registers.{Registers, Step, start, step_of}
use Rattle.line_model.specs.Fields.{Judged, Program, ◌>>=◌, program_at}
use Rattle.line_model.specs.Program.{Machine, Placed, is_full, with_added, with_step, machine_after, at_place, machine_behind, operations_of, rows_behind as rows_left, rows_in, rows_at}
use Rattle.binary_model.specs.LinePrograms.{row_count, rows_of_unit, next_rows, rows_behind, rows_of_units}
use Rattle.reading_laws.specs.Programs.{RowsAreOfTheirProgram, AreOfFirstUnits, RowsAreByUnit, RowsByUnitAreRead, ProgramsAreRefusedInOrder}

-- ---- one program

-- what stands first, and what follows it
record Then {X Y : Type 0} (first : Judged X) (next : X → Judged Y) (y : Y) : Type 0 where
  x : X
  is : first ≡ Ok x
  follows : next x ≡ Ok y

parts : {X Y : Type 0} (first : Judged X) (next : X → Judged Y) (y : Y) → (first >>= next) ≡ Ok y → Then first next y
parts (Ok x) next y e = record { x = x; is = refl; follows = e }
parts (Err place) next y e = absurd cc

not_full : (before : ℕ) (rows : List Row) → is_full before rows ≡ false → is_full 0 rows ≡ false
not_full before rows e = grind (arith, nat_tests)

at_place-ok : {X : Type 0} (at : ℕ) (read : Result X Kind) (x : X) → at_place at read ≡ Ok x → read ≡ Ok x
at_place-ok at (Ok y) x e = cc
at_place-ok at (Err kind) x e = absurd cc

module _ (header : Header) (before : ℕ) where
  added-alone : (machine next : Machine) (registers : Registers) (row : Option Row) → with_added before machine registers row ≡ Ok next → with_added 0 machine registers row ≡ Ok next
  added-alone machine next registers None e = e
  added-alone machine next registers (Some row) e = go (is_full before machine.rows) refl e
    where
      go : (full : Bool) → is_full before machine.rows ≡ full
          → cond full (Err TooManyRows) (Ok (record { registers = registers; rows = machine.rows ++ row ∷ [] })) ≡ Ok next
          → with_added 0 machine registers (Some row) ≡ Ok next
      go true is e = absurd cc
      go false is e =
          ap (λ (b : Bool). cond b (Err TooManyRows) (Ok (record { registers = registers; rows = machine.rows ++ row ∷ [] }))) (not_full before machine.rows is) ∙ e

  step-alone : (machine next : Machine) (step : Option Step) → with_step before machine step ≡ Ok next → with_step 0 machine step ≡ Ok next
  step-alone machine next None e = absurd cc
  step-alone machine next (Some step) e = added-alone machine next step.registers step.row e

  after-alone : (machine next : Machine) (operation : Result Operation Kind) → machine_after header before machine operation ≡ Ok next → machine_after header 0 machine operation ≡ Ok next
  after-alone machine next (Ok operation) e = step-alone machine next (step_of header machine.registers operation) e
  after-alone machine next (Err kind) e = absurd cc

  machine-alone : (machine next : Machine) (placed : Placed) → machine_behind header before machine placed ≡ Ok next → machine_behind header 0 machine placed ≡ Ok next
  machine-alone machine next placed e =
      ap (at_place placed.at) (after-alone machine next placed.operation (at_place-ok placed.at (machine_after header before machine placed.operation) next e))

  left-alone : (end : ℕ) (machine : Machine) (more : List Placed) (rows : List Row) → rows_left header before end machine more ≡ Ok rows → rows_left header 0 end machine more ≡ Ok rows
  left-alone end machine [] rows e = e
  left-alone end machine (placed ∷ more) rows e =
      let p = parts (machine_behind header before machine placed) (λ next. rows_left header before end next more) rows e in
      ap (λ (m : Judged Machine). m >>= λ next. rows_left header 0 end next more) (machine-alone machine p.x placed p.is)
      ∙ left-alone end p.x more rows p.follows

pub rows-of_their_program : RowsAreOfTheirProgram
unfolding rows_at rows_in
rows-of_their_program before start_of rows e =
    let p = parts (program_at start_of) (rows_in before) rows e in
    ap (λ (q : Judged Program). q >>= rows_in 0) p.is ∙ left-alone p.x.header before (p.x.opcodes.at + length p.x.opcodes.left) (record { registers = start; rows = [] }) (operations_of p.x) rows p.follows

-- ---- unit by unit

abbrev Lists : Type 0
Lists = List (Option (List Row))

module _ (section : Option Cursor) (told : Units) where
  -- Behind the rows of some units, those of the next ones.
  Next : ℕ → Lists → Lists → Type 0
  Next place so_far [] = Unit
  Next place so_far (rows ∷ more) =
      (rows_of_unit section told place (row_count so_far) ≡ Ok rows) × Next (place + 1) (so_far ++ rows ∷ []) more

  -- the same by index
  abbrev ByIndex : ℕ → Lists → Lists → Type 0
  ByIndex place so_far more =
      (i : ℕ) (rows : Option (List Row)) → slice_get more i ≡ Some rows
      → rows_of_unit section told (place + i) (row_count (so_far ++ take i more)) ≡ Ok rows

  from_next : (place : ℕ) (so_far more : Lists) → Next place so_far more → ByIndex place so_far more
  unfolding Next
  from_next place so_far [] next i rows e = absurd cc
  from_next place so_far (first ∷ more) next zero rows e =
      let same : first ≡ rows = cc in
      (λ k. rows_of_unit section told (add-zero place k) (row_count (append-nil so_far k))) ∙ next.0 ∙ ap (λ (r : Option (List Row)). Ok r) same
  from_next place so_far (first ∷ more) next (suc i) rows e =
      let at : place + suc i ≡ place + 1 + i = omega arith in
      (λ k. rows_of_unit section told (at k) (row_count (sym (append_assoc so_far (first ∷ []) (take i more)) k)))
      ∙ from_next (place + 1) (so_far ++ first ∷ []) more next.1 i rows e

  to_next : (place : ℕ) (so_far more : Lists) → ByIndex place so_far more → Next place so_far more
  unfolding Next
  to_next place so_far [] all = tt
  to_next place so_far (first ∷ more) all = (
    (λ k. rows_of_unit section told (sym (add-zero place) k) (row_count (sym (append-nil so_far) k))) ∙ all 0 first refl,
    to_next (place + 1) (so_far ++ first ∷ []) more (λ i rows e.
        let at : place + 1 + i ≡ place + suc i = omega arith in
        (λ k. rows_of_unit section told (at k) (row_count (append_assoc so_far (first ∷ []) (take i more) k))) ∙ all (suc i) rows e),
  )

  -- the rows that are read behind others
  record Reads (place : ℕ) (units : List UnitRead) (so_far lists : Lists) : Type 0 where
    more : Lists
    joined : lists ≡ so_far ++ more
    sized : length more ≡ length units
    next : Next place so_far more

  reads : (place : ℕ) (units : List UnitRead) (so_far lists : Lists) → rows_behind section told place units so_far ≡ Ok lists → Reads place units so_far lists
  unfolding Next
  reads place [] so_far lists e =
      let same : so_far ≡ lists = cc in
      record { more = []; joined = ◌∙◌ {b = so_far} (sym same) (sym (append-nil so_far)); sized = refl; next = tt }
  reads place (unit ∷ units) so_far lists e =
      let p = parts (next_rows section told place so_far) (rows_behind section told (place + 1) units) lists e in
      let q = parts (rows_of_unit section told place (row_count so_far)) (λ rows. Ok (so_far ++ rows ∷ [])) p.x p.is in
      let same : so_far ++ q.x ∷ [] ≡ p.x = let f = q.follows in cc in
      let r = reads (place + 1) units (so_far ++ q.x ∷ []) lists (ap (rows_behind section told (place + 1) units) same ∙ p.follows) in
      record {
        more = q.x ∷ r.more;
        joined = r.joined ∙ append_assoc so_far (q.x ∷ []) r.more;
        sized = ap suc r.sized;
        next = (q.is, r.next);
      }

  again : (place : ℕ) (units : List UnitRead) (so_far more : Lists) → length more ≡ length units → Next place so_far more → rows_behind section told place units so_far ≡ Ok (so_far ++ more)
  unfolding Next
  again place [] so_far [] sized next = ap (λ (l : Lists). Ok l) (sym (append-nil so_far))
  again place [] so_far (rows ∷ more) sized next = absurd (omega (arith, sized))
  again place (unit ∷ units) so_far [] sized next = absurd (omega (arith, sized))
  again place (unit ∷ units) so_far (rows ∷ more) sized next =
      ap (λ (r : Judged (Option (List Row))). (r >>= λ rows. Ok (so_far ++ rows ∷ [])) >>= rows_behind section told (place + 1) units) next.0
      ∙ again (place + 1) units (so_far ++ rows ∷ []) more (omega (arith, sized)) next.1
      ∙ ap (λ (l : Lists). Ok l) (append_assoc so_far (rows ∷ []) more)

  -- the rows before a program that is refused
  record Refused (place : ℕ) (units : List UnitRead) (so_far : Lists) (at : Place) : Type 0 where
    more : Lists
    short : length more < length units
    next : Next place so_far more
    bad : rows_of_unit section told (place + length more) (row_count (so_far ++ more)) ≡ Err at

  refused : (place : ℕ) (units : List UnitRead) (so_far : Lists) (at : Place) → rows_behind section told place units so_far ≡ Err at → Refused place units so_far at
  unfolding Next
  refused place [] so_far at e = absurd cc
  refused place (unit ∷ units) so_far at e =
      go (rows_of_unit section told place (row_count so_far)) refl e (λ rows f. refused (place + 1) units (so_far ++ rows ∷ []) at f)
    where
      go : (answer : Judged (Option (List Row))) → rows_of_unit section told place (row_count so_far) ≡ answer
          → ((answer >>= λ rows. Ok (so_far ++ rows ∷ [])) >>= rows_behind section told (place + 1) units) ≡ Err at
          → ((rows : Option (List Row)) → rows_behind section told (place + 1) units (so_far ++ rows ∷ []) ≡ Err at → Refused (place + 1) units (so_far ++ rows ∷ []) at)
          → Refused place (unit ∷ units) so_far at
      go (Err other) is f later =
          let same : other ≡ at = cc in
          record {
            more = [];
            short = omega arith;
            next = tt;
            bad = (λ k. rows_of_unit section told (add-zero place k) (row_count (append-nil so_far k))) ∙ is ∙ ap (λ (p : Place). Err p) same;
          }
      go (Ok rows) is f later =
          let r = later rows f in
          let short = r.short in
          let there : place + suc (length r.more) ≡ place + 1 + length r.more = omega arith in
          record {
            more = rows ∷ r.more;
            short = omega (arith, short);
            next = (is, r.next);
            bad = (λ k. rows_of_unit section told (there k) (row_count (sym (append_assoc so_far (rows ∷ []) r.more) k))) ∙ r.bad;
          }

-- from the first unit on
from_first : (section : Option Cursor) (told : Units) (lists : Lists) → Next section told 0 [] lists → AreOfFirstUnits section told lists
from_first section told lists next i rows e =
    (λ k. rows_of_unit section told (sym (zero-add i) k) (row_count (take i lists))) ∙ from_next section told 0 [] lists next i rows e

to_first : (section : Option Cursor) (told : Units) (lists : Lists) → AreOfFirstUnits section told lists → Next section told 0 [] lists
to_first section told lists all =
    to_next section told 0 [] lists (λ i rows e. (λ k. rows_of_unit section told (zero-add i k) (row_count (take i lists))) ∙ all i rows e)

pub rows-by_unit : RowsAreByUnit
unfolding rows_of_units
rows-by_unit section told lists e =
    let r = reads section told 0 told.units [] lists e in
    (ap length r.joined ∙ r.sized, subst (λ (l : Lists). AreOfFirstUnits section told l) (sym r.joined) (from_first section told r.more r.next))

pub rows_by_unit-read : RowsByUnitAreRead
unfolding rows_of_units
rows_by_unit-read section told lists sized all = again section told 0 told.units [] lists sized (to_first section told lists all)

pub programs-refused_in_order : ProgramsAreRefusedInOrder
unfolding rows_of_units
programs-refused_in_order section told place e =
    let r = refused section told 0 told.units [] place e in (
      r.more,
      r.short,
      from_first section told r.more r.next,
      (λ k. rows_of_unit section told (sym (zero-add (length r.more)) k) (row_count r.more)) ∙ r.bad,
    )
