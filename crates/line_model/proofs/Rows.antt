-- The rows that are read are those of the program's operations, and those are read.
use Rattle.std.proofs.Common.{◌≡◌, ◌+◌, ◌-◌, ◌≤◌, ◌<◌, ℕ, zero, suc, Bool, true, false, List, [], ◌∷◌, ◌++◌, length, Option, None, Some, Ok, Err, refl, sym, ap, subst, ◌∙◌, cond, arith}
use Rattle.std.specs.List.{concat}
use Rattle.std.specs.Option.{option_to_list}
use Rattle.std.proofs.lemmas.Bool.Decides.{nat_tests}
use Rattle.std.proofs.lemmas.List.{append_assoc, append-nil, length-append}
use Rattle.refusal.specs.declared.kind.Kind.TheVariants.{NoEnd, TooManyRows}
use Rattle.refusal.specs.Place.{in_binary}
use Rattle.line_model.specs.declared.row.Row.{Row}
use Rattle.line_model.specs.declared.operation.Operation.{Operation}
use Rattle.line_model.specs.Header.{Header}
use Rattle.line_model.specs.Registers.{Registers, Step, start, step_of}
use Rattle.line_model.specs.Spelling.{Spells}
use Rattle.line_model.specs.Reading.{OperationReading, operation_at}
use Rattle.line_model.specs.Fields.{Judged, Program, ◌>>=◌, unless, program_at}
use Rattle.line_model.specs.Program.{Adds, AreRowsOf, Machine, placed_first, operations_in, max_rows, max_rows_of_all, is_full, with_added, with_step, at_place, is_open, rows_behind, rows_in, rows_at}
use Rattle.line_model.specs.Laws.{ReadRowsAreRows, RowsAreRead}
use Rattle.line_model.proofs.Spelled.{operation_at-spelled, operation_at-again}

same_rows : (rows others : List Row) → ◌≡◌ {A = Judged (List Row)} (Ok rows) (Ok others) → rows ≡ others
same_rows rows others e = cc

-- what is spelled has a byte at least
spelled_some : (header : Header) (bytes : List ℕ) (operation : Operation) → Spells header bytes operation → 0 < length bytes
spelled_some header [] operation spelled = absurd spelled
spelled_some header (byte ∷ bytes) operation spelled = omega arith

module _ (header : Header) (before end : ℕ) where
  -- the operations that are left add the last of the rows
  record AddsLater (registers : Registers) (done : List Row) (left : List ℕ) (rows : List Row) : Type 0 where
    operations : List (List ℕ)
    later : List Row
    last : Registers
    bytes_are : concat operations ≡ left
    added : Adds header registers operations later last
    rows_are : rows ≡ done ++ later

  -- where no operation is left
  none_left : (machine : Machine) (rows : List Row) (open_rows : Bool) → unless open_rows (in_binary end NoEnd) machine.rows ≡ Ok rows → AddsLater machine.registers machine.rows [] rows
  none_left machine rows true e = absurd cc
  none_left machine rows false e = record {
    operations = [];
    later = [];
    last = machine.registers;
    bytes_are = refl;
    added = (refl, refl);
    rows_are = sym (same_rows machine.rows rows e) ∙ sym (append-nil machine.rows);
  }

  -- one operation before those that are left
  one_more : (operation : Operation) (front rest : List ℕ) (machine : Machine) (rows : List Row) (step : Step) → Spells header front operation
      → step_of header machine.registers operation ≡ Some step → AddsLater step.registers (machine.rows ++ option_to_list step.row) rest rows
      → AddsLater machine.registers machine.rows (front ++ rest) rows
  one_more operation front rest machine rows step spelled comes a = record {
    operations = front ∷ a.operations;
    later = option_to_list step.row ++ a.later;
    last = a.last;
    bytes_are = ap (λ (b : List ℕ). front ++ b) a.bytes_are;
    added = (step, a.later, record { operation = operation; spelled = spelled; comes_to = comes }, a.added, refl);
    rows_are = a.rows_are ∙ append_assoc machine.rows (option_to_list step.row) a.later;
  }

  -- the machine behind a step goes on
  follows_added : (at : ℕ) (machine : Machine) (registers : Registers) (row : Option Row) (full : Bool) (more : Machine → Judged (List Row)) (rows : List Row) → is_full before machine.rows ≡ full
      → (at_place at (with_added before machine registers row) >>= more) ≡ Ok rows
      → more (record { registers = registers; rows = machine.rows ++ option_to_list row }) ≡ Ok rows
  follows_added at machine registers None full more rows is e =
      ap (λ (r : List Row). more (record { registers = registers; rows = r })) (append-nil machine.rows) ∙ e
  follows_added at machine registers (Some row) true more rows is e =
      let no : (at_place at (Err TooManyRows) >>= more) ≡ Ok rows =
      ap (λ b. at_place at (cond b (Err TooManyRows) (Ok (record { registers = registers; rows = machine.rows ++ row ∷ [] }))) >>= more) (sym is) ∙ e in absurd cc
  follows_added at machine registers (Some row) false more rows is e =
      ap (λ b. at_place at (cond b (Err TooManyRows) (Ok (record { registers = registers; rows = machine.rows ++ row ∷ [] }))) >>= more) (sym is) ∙ e

  follows_step : (at : ℕ) (operation : Operation) (front rest : List ℕ) (machine : Machine) (step : Option Step) (more : Machine → Judged (List Row)) (rows : List Row) → Spells header front operation
      → step_of header machine.registers operation ≡ step
      → (at_place at (with_step before machine step) >>= more) ≡ Ok rows
      → ((next : Machine) → more next ≡ Ok rows → AddsLater next.registers next.rows rest rows)
      → AddsLater machine.registers machine.rows (front ++ rest) rows
  follows_step at operation front rest machine None more rows spelled is e later = absurd cc
  follows_step at operation front rest machine (Some step) more rows spelled is e later =
      one_more operation front rest machine rows step spelled is
      (later (record { registers = step.registers; rows = machine.rows ++ option_to_list step.row })
      (follows_added at machine step.registers step.row (is_full before machine.rows) more rows refl e))

  rows_behind-added : (most at : ℕ) (left : List ℕ) (machine : Machine) (rows : List Row) → length left ≤ most
      → rows_behind header before end machine (operations_in header most at left) ≡ Ok rows → AddsLater machine.registers machine.rows left rows
  rows_behind-added zero at [] machine rows enough e = none_left machine rows (is_open machine.rows) e
  rows_behind-added zero at (byte ∷ bytes) machine rows enough e = absurd (omega arith)
  rows_behind-added (suc most) at [] machine rows enough e = none_left machine rows (is_open machine.rows) e
  rows_behind-added (suc most) at (byte ∷ bytes) machine rows enough e =
      go (operation_at header (byte ∷ bytes)) refl e (λ at rest next less. rows_behind-added most at rest next rows less)
    where
      go : (reading : OperationReading) → operation_at header (byte ∷ bytes) ≡ reading
          → rows_behind header before end machine (placed_first at (length (byte ∷ bytes)) (operations_in header most) reading) ≡ Ok rows
          → ((at : ℕ) (rest : List ℕ) (next : Machine) → length rest ≤ most → rows_behind header before end next (operations_in header most at rest) ≡ Ok rows → AddsLater next.registers next.rows rest rows)
          → AddsLater machine.registers machine.rows (byte ∷ bytes) rows
      go (Err kind) is e later = absurd cc
      go (Ok (operation, rest)) is e later =
          let s = operation_at-spelled header (byte ∷ bytes) rest operation is in
          let some = spelled_some header s.front operation s.spelled in
          let less : length rest ≤ most = omega (arith, ap length s.parts, length-append s.front rest) in
          subst (λ (b : List ℕ). AddsLater machine.registers machine.rows b rows) (sym s.parts)
          (follows_step at operation s.front rest machine (step_of header machine.registers operation)
          (λ next. rows_behind header before end next (operations_in header most (at + (length (byte ∷ bytes) - length rest)) rest))
          rows s.spelled refl e (λ next. later (at + (length (byte ∷ bytes) - length rest)) rest next less))

pub read_rows_are_rows : ReadRowsAreRows
unfolding rows_at rows_in
read_rows_are_rows before start_of rows e = go (program_at start_of) refl e
  where
    go : (read : Judged Program) → program_at start_of ≡ read → (read >>= rows_in before) ≡ Ok rows → AreRowsOf start_of rows
    go (Err place) is e = absurd cc
    go (Ok program) is e =
        let a = rows_behind-added program.header before (program.opcodes.at + length program.opcodes.left) (length program.opcodes.left) program.opcodes.at program.opcodes.left
        (record { registers = start; rows = [] }) rows (omega arith) e in
        record {
          program = program;
          read = is;
          rows_are = record {
            operations = a.operations;
            last = a.last;
            bytes_are = a.bytes_are;
            added = subst (λ (r : List Row). Adds program.header start a.operations r a.last) (sym a.rows_are) a.added;
          };
        }

-- room is left for a row that is one of so many
not_full : (before : ℕ) (done : List Row) (total : ℕ) → length done < total → total ≤ max_rows → before + total ≤ max_rows_of_all → is_full before done ≡ false
not_full before done total less few few_of_all = grind (arith, nat_tests)

module _ (header : Header) (before end : ℕ) (rows : List Row) (few : length rows ≤ max_rows) (few_of_all : before + length rows ≤ max_rows_of_all) (closed : is_open rows ≡ false) where
  -- all is read where none is left
  all_read : (machine : Machine) → rows ≡ machine.rows → unless (is_open machine.rows) (in_binary end NoEnd) machine.rows ≡ Ok rows
  all_read machine is =
      ap (λ (r : List Row). unless (is_open r) (in_binary end NoEnd) r) (sym is) ∙ ap (λ b. unless b (in_binary end NoEnd) rows) closed

  ends_read : (most at : ℕ) (left : List ℕ) (machine : Machine) → [] ≡ left → rows ≡ machine.rows → rows_behind header before end machine (operations_in header most at left) ≡ Ok rows
  ends_read most at (byte ∷ bytes) machine nothing is = absurd cc
  ends_read zero at [] machine nothing is = all_read machine is
  ends_read (suc most) at [] machine nothing is = all_read machine is

  -- a step is taken
  step_taken : (at : ℕ) (machine : Machine) (registers : Registers) (row : Option Row) (later : List Row) (more : Machine → Judged (List Row)) → rows ≡ machine.rows ++ (option_to_list row ++ later)
      → (at_place at (with_added before machine registers row) >>= more) ≡ more (record { registers = registers; rows = machine.rows ++ option_to_list row })
  step_taken at machine registers None later more is =
      ap (λ (r : List Row). more (record { registers = registers; rows = r })) (sym (append-nil machine.rows))
  step_taken at machine registers (Some row) later more is =
      let room = not_full before machine.rows (length rows) (omega (arith, ap length is, length-append machine.rows ((row ∷ []) ++ later), length-append (row ∷ []) later)) few few_of_all in
      ap (λ b. at_place at (cond b (Err TooManyRows) (Ok (record { registers = registers; rows = machine.rows ++ row ∷ [] }))) >>= more) room

  behind_read : (operations : List (List ℕ)) (most at : ℕ) (left : List ℕ) (machine : Machine) (later : List Row) (last : Registers) → concat operations ≡ left → length left ≤ most
      → Adds header machine.registers operations later last → rows ≡ machine.rows ++ later
      → rows_behind header before end machine (operations_in header most at left) ≡ Ok rows
  behind_read [] most at left machine later last bytes_are enough added is =
      ends_read most at left machine bytes_are (is ∙ ap (λ (r : List Row). machine.rows ++ r) added.0 ∙ append-nil machine.rows)
  behind_read ([] ∷ operations) most at left machine later last bytes_are enough (step, more, operates, added, later_is) is = absurd operates.spelled
  behind_read ((byte ∷ bytes) ∷ operations) zero at left machine later last bytes_are enough added is = absurd (omega (arith, ap length bytes_are))
  behind_read ((byte ∷ bytes) ∷ operations) (suc most) at left machine later last bytes_are enough (step, more, operates, added, later_is) is =
      let rest : List ℕ = concat operations in
      let all : List ℕ = byte ∷ (bytes ++ concat operations) in
      let read : operation_at header (byte ∷ (bytes ++ concat operations)) ≡ Ok (operates.operation, concat operations) =
      operation_at-again header (byte ∷ bytes) (concat operations) operates.operation operates.spelled in
      let next : Machine = record { registers = step.registers; rows = machine.rows ++ option_to_list step.row } in
      let follows : Machine → Judged (List Row) =
      λ (m : Machine). rows_behind header before end m (operations_in header most (at + (length (byte ∷ (bytes ++ concat operations)) - length (concat operations))) (concat operations)) in
      let rows_are : rows ≡ machine.rows ++ (option_to_list step.row ++ more) = is ∙ ap (λ (r : List Row). machine.rows ++ r) later_is in
      let shorter : length (concat operations) ≤ most = omega (arith, ap length bytes_are, length-append bytes (concat operations)) in
      ap (λ (l : List ℕ). rows_behind header before end machine (operations_in header (suc most) at l)) (sym bytes_are)
      ∙ ap (λ r. rows_behind header before end machine (placed_first at (length (byte ∷ (bytes ++ concat operations))) (operations_in header most) r)) read
      ∙ ap (λ s. at_place at (with_step before machine s) >>= follows) operates.comes_to
      ∙ step_taken at machine step.registers step.row more follows rows_are
      ∙ behind_read operations most (at + (length (byte ∷ (bytes ++ concat operations)) - length (concat operations))) (concat operations) next more last refl shorter added
      (rows_are ∙ sym (append_assoc machine.rows (option_to_list step.row) more))

pub rows_are_read : RowsAreRead
unfolding rows_at rows_in
rows_are_read before start_of rows are closed few few_of_all =
    let program = are.program in
    ap (λ r. r >>= rows_in before) are.read
    ∙ behind_read program.header before (program.opcodes.at + length program.opcodes.left) rows few few_of_all closed are.rows_are.operations (length program.opcodes.left) program.opcodes.at
    program.opcodes.left (record { registers = start; rows = [] }) rows are.rows_are.last are.rows_are.bytes_are (omega arith) are.rows_are.added refl
