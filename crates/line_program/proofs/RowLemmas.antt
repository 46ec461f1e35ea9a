-- The rows of a program, operation by operation.
use Rattle.std.proofs.Common.{◌≡◌, ℕ, zero, suc, ◌+◌, ◌-◌, ◌<◌, ◌≤◌, List, [], ◌∷◌, length, Ok, Err, Result, refl, sym, ap, subst, ◌∙◌, arith}
use Rattle.refusal.specs.declared.kind.Kind.{Kind}
use Rattle.refusal.specs.declared.kind.Kind.TheVariants.{NoEnd}
use Rattle.refusal.specs.Place.{JudgesUnlessNoMemory, in_binary, stop_in_binary}
use Rattle.refusal.specs.declared.place.ItemStop.{ItemStop}
use Rattle.refusal.specs.declared.place.ItemStop.TheVariants.{Refused, NoMemory}
use Rattle.refusal.specs.declared.place.Stop.{Stop}
use Rattle.refusal.specs.declared.place.Stop.TheVariants as stops
use Rattle.std.specs.Global.{Vec}
use Rattle.std.specs.Result.{result_err}
use Rattle.byte_view.specs.Cursor.{Cursor}
use Rattle.line_model.proofs.Rows.{read_rows_are_rows}
use Rattle.line_model.specs.declared.row.Row.{Row}
use Rattle.line_model.specs.Header.{Header}
use Rattle.line_model.specs.Registers.{start}
use Rattle.line_model.specs.Reading.{OperationReading, operation_at}
use Rattle.line_model.specs.Fields.{Judged, Program, ◌>>=◌, unless, program_at}
use Rattle.line_model.specs.Program.{Machine, placed_first, operations_in, machine_after, at_place, is_open, rows_behind, rows_in, rows_at, first_bad_of, AreRowsOf}
use Rattle.line_program.specs.Machines.{beside, behind_read, GivesNext}
use Rattle.line_program.specs.Rows.{GivesRows}
use Rattle.line_program.specs.State.{State}

module _ (header : Header) (before end : ℕ) where
  -- these bytes are left, the last of the program, and the rows are those that they add to the machine's
  pub record RowsLeft (rows : Judged (List Row)) (machine : Machine) (left : List ℕ) : Type 0 where
    pub most : ℕ
    pub enough : length left ≤ most
    pub within : length left ≤ end
    pub same : rows_behind header before end machine (operations_in header most (end - length left) left) ≡ rows

  -- what follows the first operation
  abbrev rows_after : Machine → ℕ → ℕ → ℕ → OperationReading → Judged (List Row)
  rows_after machine most at size reading =
      rows_behind header before end machine (placed_first at size (operations_in header most) reading)

  go_beside : (most at size : ℕ) (next : Machine) (behind rest : List ℕ) (after : Result Machine Kind) → beside behind after ≡ Ok (next, rest)
      → (at_place at after >>= λ m. rows_behind header before end m (operations_in header most (at + (size - length behind)) behind))
      ≡ rows_behind header before end next (operations_in header most (at + (size - length rest)) rest)
  go_beside most at size next behind rest (Err kind) same = absurd cc
  go_beside most at size next behind rest (Ok m) same =
      let pair : ◌≡◌ {A = Machine × List ℕ} (m, behind) (next, rest) = cc in
      let is_next : m ≡ next = ap (λ (p : Machine × List ℕ). p.0) pair in
      let is_rest : behind ≡ rest = ap (λ (p : Machine × List ℕ). p.1) pair in
      ap (λ (p : Machine × List ℕ). rows_behind header before end p.0 (operations_in header most (at + (size - length p.1)) p.1)) pair

  go_on : (machine next : Machine) (most at size : ℕ) (rest : List ℕ) (reading : OperationReading) → behind_read header before machine reading ≡ Ok (next, rest)
      → rows_after machine most at size reading ≡ rows_behind header before end next (operations_in header most (at + (size - length rest)) rest)
  go_on machine next most at size rest (Err kind) read = absurd cc
  go_on machine next most at size rest (Ok (operation, behind)) read =
      go_beside most at size next behind rest (machine_after header before machine (Ok operation)) read

  stop_beside : (most at size : ℕ) (kind : Kind) (behind : List ℕ) (after : Result Machine Kind) → beside behind after ≡ Err kind
      → (at_place at after >>= λ m. rows_behind header before end m (operations_in header most (at + (size - length behind)) behind)) ≡ Err (in_binary at kind)
  stop_beside most at size kind behind (Ok m) same = absurd cc
  stop_beside most at size kind behind (Err other) same =
      let e : other ≡ kind = cc in ap (λ (k : Kind). Err (in_binary at k)) e

  stop_at : (machine : Machine) (most at size : ℕ) (kind : Kind) (reading : OperationReading) → behind_read header before machine reading ≡ Err kind
      → rows_after machine most at size reading ≡ Err (in_binary at kind)
  stop_at machine most at size kind (Err other) read =
      let e : other ≡ kind = cc in ap (λ (k : Kind). Err (in_binary at k)) e
  stop_at machine most at size kind (Ok (operation, behind)) read =
      stop_beside most at size kind behind (machine_after header before machine (Ok operation)) read

  next_of : (rows : Judged (List Row)) (machine next : Machine) (left rest : List ℕ) (most : ℕ) → length left ≤ most → length left ≤ end
      → rows_behind header before end machine (operations_in header most (end - length left) left) ≡ rows
      → behind_read header before machine (operation_at header left) ≡ Ok (next, rest) → length rest < length left → RowsLeft rows next rest
  next_of rows machine next [] rest most enough within same read shorter = absurd (omega arith)
  next_of rows machine next (byte ∷ bytes) rest zero enough within same read shorter = absurd (omega arith)
  next_of rows machine next (byte ∷ bytes) rest (suc most) enough within same read shorter =
      let size : ℕ = length (byte ∷ bytes) in
      let place : end - length rest ≡ end - length (byte ∷ bytes) + (length (byte ∷ bytes) - length rest) = omega arith in
      record {
        most = most;
        enough = omega arith;
        within = omega arith;
        same = ap (λ k. rows_behind header before end next (operations_in header most k rest)) place
            ∙ sym (go_on machine next most (end - length (byte ∷ bytes)) (length (byte ∷ bytes)) rest (operation_at header (byte ∷ bytes)) read)
            ∙ same;
      }

  stopped : (rows : Judged (List Row)) (machine : Machine) (left : List ℕ) (kind : Kind) (most : ℕ) → length left ≤ most → 0 < length left
      → rows_behind header before end machine (operations_in header most (end - length left) left) ≡ rows
      → behind_read header before machine (operation_at header left) ≡ Err kind → rows ≡ Err (in_binary (end - length left) kind)
  stopped rows machine [] kind most enough some same read = absurd (omega arith)
  stopped rows machine (byte ∷ bytes) kind zero enough some same read = absurd (omega arith)
  stopped rows machine (byte ∷ bytes) kind (suc most) enough some same read =
      sym same ∙ stop_at machine most (end - length (byte ∷ bytes)) (length (byte ∷ bytes)) kind (operation_at header (byte ∷ bytes)) read

  ended : (rows : Judged (List Row)) (machine : Machine) (left : List ℕ) (most : ℕ) → length left ≡ 0
      → rows_behind header before end machine (operations_in header most (end - length left) left) ≡ rows
      → rows ≡ unless (is_open machine.rows) (in_binary end NoEnd) machine.rows
  ended rows machine (byte ∷ bytes) most none same = absurd (omega arith)
  ended rows machine [] zero none same = sym same
  ended rows machine [] (suc most) none same = sym same

  -- one operation is done,
  pub RowsLeft-next : (rows : Judged (List Row)) (machine next : Machine) (left rest : List ℕ) → RowsLeft rows machine left
      → behind_read header before machine (operation_at header left) ≡ Ok (next, rest) → length rest < length left → RowsLeft rows next rest
  RowsLeft-next rows machine next left rest so_far read shorter =
      next_of rows machine next left rest so_far.most so_far.enough so_far.within so_far.same read shorter

  -- or refused,
  pub RowsLeft-stop : (rows : Judged (List Row)) (machine : Machine) (left : List ℕ) (kind : Kind) → RowsLeft rows machine left → 0 < length left
      → behind_read header before machine (operation_at header left) ≡ Err kind → rows ≡ Err (in_binary (end - length left) kind)
  RowsLeft-stop rows machine left kind so_far some read =
      stopped rows machine left kind so_far.most so_far.enough some so_far.same read

  -- or none is left.
  pub RowsLeft-all : (rows : Judged (List Row)) (machine : Machine) (left : List ℕ) → RowsLeft rows machine left → length left ≡ 0
      → rows ≡ unless (is_open machine.rows) (in_binary end NoEnd) machine.rows
  RowsLeft-all rows machine left so_far none = ended rows machine left so_far.most none so_far.same

-- at the start all bytes are left
pub RowsLeft-start : (before end : ℕ) (program : Program) (machine : Machine) → end ≡ program.opcodes.at + length program.opcodes.left
    → machine ≡ record { registers = start; rows = [] } → RowsLeft program.header before end (rows_in before program) machine program.opcodes.left
unfolding rows_in
RowsLeft-start before end program machine end_is fresh =
    let place : end - length program.opcodes.left ≡ program.opcodes.at = omega arith in
    record {
      most = length program.opcodes.left;
      enough = omega arith;
      within = omega arith;
      same = rw (fresh, place, end_is) refl;
    }

-- where an operation stops the reading
pub GivesRows-stop : (header : Header) (before end : ℕ) (rows : Judged (List Row)) (machine : Machine) (left rest : List ℕ) (new : State) (stop : ItemStop) (answer : Stop) (at : ℕ)
    → RowsLeft header before end rows machine left → 0 < length left → GivesNext (Err stop) new rest (behind_read header before machine (operation_at header left))
    → at ≡ end - length left → answer ≡ stop_in_binary at stop → GivesRows (Err answer) rows
GivesRows-stop header before end rows machine left rest new (Refused kind) answer at so_far some read place stops =
    rw (stops, place) (RowsLeft-stop header before end rows machine left kind so_far some read)
GivesRows-stop header before end rows machine left rest new NoMemory answer at so_far some read place stops = rw stops tt

-- what is read of a program judges it
pub judged_rows : (before : ℕ) (start_of : Cursor) (result : Result (Vec Row) Stop) → GivesRows result (rows_at before start_of)
    → JudgesUnlessNoMemory (first_bad_of before start_of) result (λ rows. AreRowsOf start_of rows.items)
judged_rows before start_of (Ok rows) read = (ap result_err read, read_rows_are_rows before start_of rows.items read)
judged_rows before start_of (Err (stops.Refused place)) read = ap result_err read
judged_rows before start_of (Err stops.NoMemory) read = tt

pub GivesRows-program : (before : ℕ) (start_of : Cursor) (program : Program) (result : Result (Vec Row) Stop) → program_at start_of ≡ Ok program
    → GivesRows result (rows_in before program) → GivesRows result (rows_at before start_of)
unfolding rows_at
GivesRows-program before start_of program result is gives =
    subst (λ r. GivesRows result (r >>= rows_in before)) (sym is) gives
