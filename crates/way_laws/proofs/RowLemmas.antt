-- Discriminators of rows have 32 bits, since each operation sets one of so many.
use Rattle.std.proofs.Common.{◌<◌, ◌+◌, ◌-◌, ◌^◌, ℕ, zero, suc, ◌==◌, nat_le, Bool, true, false, List, [], ◌∷◌, ◌++◌, map, filter, find, reverse, length, zip, Option, None, Some, Result, Ok, Err, ℤ, pos, ◌+ℤ◌, option_map, arith}
use mathlib.Core.List.{reverse_aux}
use Rattle.std.specs.Prelude.{⊤, codes, nat_lt, if◌then◌else◌, option_and_then, slice_get, slice_index}
use Rattle.std.specs.List.{AllByRecursion, slice_split, onto_first}
use Rattle.list_lemmas.proofs.Each.{all_push}
use Rattle.refusal.specs.declared.kind.Kind.{Kind}
use Rattle.refusal.specs.Place.{in_binary}
use Rattle.refusal.specs.declared.kind.Kind.TheVariants.{PastSection, TooManyRows}
use Rattle.refusal.specs.declared.place.Place.{Place}
use Rattle.byte_view.specs.Cursor.{Cursor}
use Rattle.byte_view.specs.Reading.{Reading, field_at, run_at, uleb_at, sleb_at}
use Rattle.line_model.specs.declared.row.Row.{Row}
use Rattle.line_model.specs.declared.operation.Operation.{Operation}
use Rattle.line_model.specs.declared.operation.Operation.TheVariants.{Special, Copy, AdvancePc, AdvanceLine, ConstAddPc, FixedAdvancePc, EndSequence, SetAddress, SetDiscriminator, Pass}
use Rattle.line_model.specs.Fields.{Program, Judged, ◌>>=◌, unless, program_at}
use Rattle.line_model.specs.Header.{Header}
use Rattle.line_model.specs.Opcodes.{Operand, alone, unsigned, signed, fixed, standard_opcodes, extended_opcodes, look_up}
use Rattle.line_model.specs.Program.{Machine, Placed, placed_first, operations_in, operations_of, is_full, is_open, with_added, with_step, machine_after, at_place, machine_behind, rows_behind, rows_in, rows_at}
use Rattle.line_model.specs.Reading.{OperationReading, made, operand_at, behind_number, ulebs_at, standard_at, then_rest, within_at, of_code, code_at, of_run, of_length, extended_at, below_base_at, of_opcode, operation_at}
use Rattle.line_model.specs.Registers.{Registers, Step, line_of, lines_on, instructions_on, special_lines, special_instructions, start, step_of, with_row, without_row}
use Rattle.line_model.specs.Rows.{Sequence, ends, holds, sequences_of, live_sequences, row_among, row_in as row_of_sequence}
use Rattle.placed_view.specs.Reader.{cursor_behind}
use Rattle.tree_model.specs.Bases.{root_attribute, section_place}
use Rattle.unit_model.specs.Constants.{DW_AT_stmt_list}
use Rattle.unit_model.specs.Units.{Unit as InfoUnit, Units}
use Rattle.unit_model.specs.Values.{Found}
use Rattle.binary_model.specs.Binary.{list_or_none, rows_read, tables_in, units_in}
use Rattle.binary_model.specs.LinePrograms.{next_rows, row_count, rows_behind as rows_of_rest, rows_by, rows_from, rows_if, rows_of_unit, rows_of_units}
use Rattle.binary_model.specs.Sections.{section_at}
use Rattle.way_laws.specs.Rows.{HasDisc, RowsHaveDiscriminators}
use Rattle.way_laws.proofs.EachLemmas.{OfSome, all_filtered, either_all, one_found}

-- ---- operations

abbrev SetsDisc : Operation → Type 0
SetsDisc (SetDiscriminator disc) = disc < 2 ^ 32
SetsDisc _ = ⊤

abbrev IsRead : OperationReading → Type 0
IsRead (Ok (operation, rest)) = SetsDisc operation
IsRead (Err kind) = ⊤

abbrev HasOperand : Operand → Type 0
HasOperand (alone operation) = SetsDisc operation
HasOperand (unsigned make) = (n : ℕ) → SetsDisc (make n)
HasOperand (signed make) = (n : ℤ) → SetsDisc (make n)
HasOperand (fixed size make) = (n : ℕ) → SetsDisc (make n)

either : (P : OperationReading → Type 0) (b : Bool) (one other : OperationReading) → P one → P other → P (if b then one else other)
either P true one other is also = is
either P false one other is also = also

standard_all : AllByRecursion (λ entry. HasOperand entry.1) standard_opcodes
standard_all = (tt, ((λ n. tt), ((λ n. tt), ((λ n. tt), ((λ n. tt), (tt, (tt, (tt, ((λ n. tt), (tt, (tt, ((λ n. tt), tt))))))))))))

extended_all : AllByRecursion (λ entry. HasOperand entry.1) extended_opcodes
extended_all = (tt, ((λ n. tt), (tt, ((λ n. omega arith), tt))))

abbrev HasOperandIfAny : Option Operand → Type 0
HasOperandIfAny None = ⊤
HasOperandIfAny (Some operand) = HasOperand operand

either_operand : (b : Bool) (one other : Option Operand) → HasOperandIfAny one → HasOperandIfAny other → HasOperandIfAny (if b then one else other)
either_operand true one other is also = is
either_operand false one other is also = also

looked_up : (table : List (ℕ × Operand)) (code : ℕ) → AllByRecursion (λ entry. HasOperand entry.1) table → HasOperandIfAny (look_up table code)
looked_up [] code all = tt
looked_up ((first, operand) ∷ rest) code all = either_operand (code == first) (Some operand) (look_up rest code) all.0 (looked_up rest code all.1)

makes : {X : Type 0} (make : X → Operation) → ((x : X) → SetsDisc (make x)) → (r : Reading X) → IsRead (made make r)
makes make is (Ok (x, rest)) = is x
makes make is (Err fault) = tt

operand_read : (operand : Operand) (bytes : List ℕ) → HasOperand operand → IsRead (operand_at operand bytes)
operand_read (alone operation) bytes is = is
operand_read (unsigned make) bytes is = makes make is (uleb_at bytes)
operand_read (signed make) bytes is = makes make is (sleb_at bytes)
operand_read (fixed size make) bytes is = makes make is (field_at size bytes)

behind_one : (follows : List ℕ → OperationReading) (r : Reading ℕ) → ((bytes : List ℕ) → IsRead (follows bytes)) → IsRead (behind_number follows r)
behind_one follows (Ok (n, rest)) is = is rest
behind_one follows (Err fault) is = tt

ulebs_read : (count : ℕ) (bytes : List ℕ) → IsRead (ulebs_at count bytes)
unfolding ulebs_at
ulebs_read zero bytes = tt
ulebs_read (suc count) bytes = behind_one (ulebs_at count) (uleb_at bytes) (λ rest. ulebs_read count rest)

standard_read : (operand : Option Operand) (count : ℕ) (bytes : List ℕ) → HasOperandIfAny operand → IsRead (standard_at operand count bytes)
standard_read None count bytes is = ulebs_read count bytes
standard_read (Some operand) count bytes is = operand_read operand bytes is

kept_rest : (rest : List ℕ) (r : OperationReading) → IsRead r → IsRead (then_rest rest r)
kept_rest rest (Ok (operation, over)) is = is
kept_rest rest (Err kind) is = tt

within_read : (operand : Option Operand) (bytes : List ℕ) → HasOperandIfAny operand → IsRead (within_at operand bytes)
within_read None bytes is = tt
within_read (Some (alone operation)) bytes is = is
within_read (Some (unsigned make)) bytes is = makes make is (uleb_at bytes)
within_read (Some (signed make)) bytes is = makes make is (sleb_at bytes)
within_read (Some (fixed size make)) bytes is = either IsRead (length bytes == size) (made make (field_at size bytes)) _ (makes make is (field_at size bytes)) tt

code_read : (r : Reading ℕ) → IsRead (of_code r)
code_read (Ok (code, bytes)) = within_read (look_up extended_opcodes code) bytes (looked_up extended_opcodes code extended_all)
code_read (Err fault) = tt

run_read : (r : Reading (List ℕ)) → IsRead (of_run r)
unfolding code_at
run_read (Ok (run, rest)) = kept_rest rest (of_code (field_at 1 run)) (code_read (field_at 1 run))
run_read (Err fault) = tt

length_read : (r : Reading ℕ) → IsRead (of_length r)
length_read (Ok (size, bytes)) = run_read (run_at size bytes)
length_read (Err fault) = tt

below_read : (header : Header) (opcode : ℕ) (bytes : List ℕ) → IsRead (below_base_at header opcode bytes)
unfolding extended_at
below_read header opcode bytes =
    either IsRead (opcode == 0) _ _ (length_read (uleb_at bytes))
    (standard_read (look_up standard_opcodes opcode) (slice_index header.opcode_lengths (opcode - 1)) bytes (looked_up standard_opcodes opcode standard_all))

opcode_read : (header : Header) (r : Reading ℕ) → IsRead (of_opcode header r)
opcode_read header (Ok (opcode, bytes)) = either IsRead (nat_le header.opcode_base opcode) _ _ tt (below_read header opcode bytes)
opcode_read header (Err fault) = tt

operation_read : (header : Header) (bytes : List ℕ) → IsRead (operation_at header bytes)
unfolding operation_at
operation_read header bytes = opcode_read header (field_at 1 bytes)

abbrev IsPlaced : Result Operation Kind → Type 0
IsPlaced (Ok operation) = SetsDisc operation
IsPlaced (Err kind) = ⊤

placed_read : (at size : ℕ) (later : ℕ → List ℕ → List Placed) (r : OperationReading) → IsRead r → ((a : ℕ) (bytes : List ℕ) → AllByRecursion (λ (p : Placed). IsPlaced p.operation) (later a bytes))
    → AllByRecursion (λ (p : Placed). IsPlaced p.operation) (placed_first at size later r)
placed_read at size later (Ok (operation, rest)) is more = (is, more (at + (size - length rest)) rest)
placed_read at size later (Err kind) is more = (tt, tt)

operations_read : (header : Header) (most at : ℕ) (bytes : List ℕ) → AllByRecursion (λ (p : Placed). IsPlaced p.operation) (operations_in header most at bytes)
operations_read header zero at bytes = tt
operations_read header (suc more) at [] = tt
operations_read header (suc more) at (byte ∷ bytes) =
    placed_read at (length (byte ∷ bytes)) (operations_in header more) (operation_at header (byte ∷ bytes)) (operation_read header (byte ∷ bytes)) (λ a rest. operations_read header more a rest)

-- ---- rows

abbrev pub IsRow : Row → Type 0
IsRow row = row.disc < 2 ^ 32

abbrev IsRowIfAny : Option Row → Type 0
IsRowIfAny None = ⊤
IsRowIfAny (Some row) = IsRow row

abbrev IsStep : Option Step → Type 0
IsStep None = ⊤
IsStep (Some step) = IsRowIfAny step.row × (step.registers.disc < 2 ^ 32)

rowed : (r : Registers) (lines : ℤ) → r.disc < 2 ^ 32 → IsStep (option_map with_row (lines_on lines r))
rowed r lines small = by (line_of (pos r.line +ℤ lines))
  where
    by : (o : Option ℕ) → IsStep (option_map with_row (option_map (λ line. record r { line = line }) o))
    by None = tt
    by (Some line) = (small, omega arith)

unrowed : (r : Registers) (lines : ℤ) → r.disc < 2 ^ 32 → IsStep (option_map without_row (lines_on lines r))
unrowed r lines small = by (line_of (pos r.line +ℤ lines))
  where
    by : (o : Option ℕ) → IsStep (option_map without_row (option_map (λ line. record r { line = line }) o))
    by None = tt
    by (Some line) = (tt, small)

steps : (header : Header) (r : Registers) (operation : Operation) → SetsDisc operation → r.disc < 2 ^ 32 → IsStep (step_of header r operation)
steps header r (Special adjusted) is small = rowed (instructions_on header (special_instructions header adjusted) r) (special_lines header adjusted) small
steps header r Copy is small = (small, omega arith)
steps header r (AdvancePc instructions) is small = (tt, small)
steps header r (AdvanceLine lines) is small = unrowed r lines small
steps header r ConstAddPc is small = (tt, small)
steps header r (FixedAdvancePc bytes) is small = (tt, small)
steps header r EndSequence is small = (small, omega arith)
steps header r (SetAddress address) is small = (tt, small)
steps header r (SetDiscriminator disc) is small = (tt, is)
steps header r Pass is small = (tt, small)

abbrev IsMachine : Machine → Type 0
IsMachine machine = (machine.registers.disc < 2 ^ 32) × AllByRecursion IsRow machine.rows

abbrev Of : {X E : Type 0} → (X → Type 0) → Result X E → Type 0
Of P (Ok x) = P x
Of P (Err e) = ⊤

added : (before : ℕ) (machine : Machine) (registers : Registers) (row : Option Row) → IsMachine machine → registers.disc < 2 ^ 32 → IsRowIfAny row → Of IsMachine (with_added before machine registers row)
added before machine registers None is small row = (small, is.1)
added before machine registers (Some row) is small has = by (is_full before machine.rows)
  where
    by : (b : Bool) → Of IsMachine (if b then Err TooManyRows else Ok (record { registers = registers; rows = machine.rows ++ row ∷ [] }))
    by true = tt
    by false = (small, all_push IsRow machine.rows row is.1 has)

stepped : (before : ℕ) (machine : Machine) (step : Option Step) → IsMachine machine → IsStep step → Of IsMachine (with_step before machine step)
stepped before machine None is step = tt
stepped before machine (Some step) is has = added before machine step.registers step.row is has.1 has.0

after : (header : Header) (before : ℕ) (machine : Machine) (operation : Result Operation Kind) → IsMachine machine → IsPlaced operation → Of IsMachine (machine_after header before machine operation)
after header before machine (Ok operation) is has = stepped before machine (step_of header machine.registers operation) is (steps header machine.registers operation has is.0)
after header before machine (Err kind) is has = tt

placed : {X : Type 0} (P : X → Type 0) (at : ℕ) (r : Result X Kind) → Of P r → Of P (at_place at r)
placed P at (Ok x) is = is
placed P at (Err kind) is = tt

goes_on : {X Y : Type 0} (P : X → Type 0) (Q : Y → Type 0) (r : Judged X) (next : X → Judged Y) → Of P r → ((x : X) → P x → Of Q (next x)) → Of Q (r >>= next)
goes_on P Q (Ok x) next is gives = gives x is
goes_on P Q (Err place) next is gives = tt

closed : (b : Bool) (place : Place) (rows : List Row) → AllByRecursion IsRow rows → Of (AllByRecursion IsRow) (unless b place rows)
closed true place rows all = tt
closed false place rows all = all

behind : (header : Header) (before end : ℕ) (machine : Machine) (operations : List Placed) → IsMachine machine → AllByRecursion (λ (p : Placed). IsPlaced p.operation) operations
    → Of (AllByRecursion IsRow) (rows_behind header before end machine operations)
behind header before end machine [] is all = closed (is_open machine.rows) _ machine.rows is.1
behind header before end machine (first ∷ more) is all =
    goes_on IsMachine (AllByRecursion IsRow) (machine_behind header before machine first) (λ next. rows_behind header before end next more)
    (placed IsMachine first.at (machine_after header before machine first.operation) (after header before machine first.operation is all.0))
    (λ next so. behind header before end next more so all.1)

program_rows : (before : ℕ) (program : Program) → Of (AllByRecursion IsRow) (rows_in before program)
unfolding rows_in
program_rows before program =
    behind program.header before (program.opcodes.at + length program.opcodes.left) (record { registers = start; rows = [] }) (operations_of program)
    (omega arith, tt) (operations_read program.header (length program.opcodes.left) program.opcodes.at program.opcodes.left)

any : {X E : Type 0} (r : Result X E) → Of (λ _. ⊤) r
any (Ok x) = tt
any (Err e) = tt

rows_there : (before : ℕ) (at : Cursor) → Of (AllByRecursion IsRow) (rows_at before at)
unfolding rows_at
rows_there before at = goes_on (λ _. ⊤) (AllByRecursion IsRow) (program_at at) (rows_in before) (any (program_at at)) (λ program _. program_rows before program)

-- ---- the rows of units

abbrev AreRowsIfAny : Option (List Row) → Type 0
AreRowsIfAny None = ⊤
AreRowsIfAny (Some rows) = AllByRecursion IsRow rows

from_offset : (before : ℕ) (section : Option Cursor) (at offset : ℕ) → Of (AllByRecursion IsRow) (rows_from before section at offset)
from_offset before None at offset = tt
from_offset before (Some section) at offset = by (nat_lt (length section.left) offset)
  where
    by : (b : Bool) → Of (AllByRecursion IsRow) (if b then Err (in_binary at PastSection) else rows_at before (cursor_behind offset section))
    by true = tt
    by false = rows_there before (cursor_behind offset section)

by_value : (before : ℕ) (section : Option Cursor) (at : ℕ) (offset : Option ℕ) → Of AreRowsIfAny (rows_by before section at offset)
by_value before section at None = tt
by_value before section at (Some offset) =
    goes_on (AllByRecursion IsRow) AreRowsIfAny (rows_from before section at offset) (λ rows. Ok (Some rows)) (from_offset before section at offset) (λ rows is. is)

by_found : (before : ℕ) (section : Option Cursor) (found : Option Found) → Of AreRowsIfAny (rows_if before section found)
by_found before section None = tt
by_found before section (Some found) = by_value before section found.at (section_place found.value)

of_unit : (section : Option Cursor) (told : Units) (number before : ℕ) → Of AreRowsIfAny (rows_of_unit section told number before)
unfolding rows_of_unit
of_unit section told number before = by_found before section (root_attribute told number DW_AT_stmt_list)

of_rest : (section : Option Cursor) (told : Units) (number : ℕ) (units : List InfoUnit) (so_far : List (Option (List Row))) → AllByRecursion AreRowsIfAny so_far
    → Of (AllByRecursion AreRowsIfAny) (rows_of_rest section told number units so_far)
of_rest section told number [] so_far all = all
of_rest section told number (unit ∷ rest) so_far all =
    goes_on (AllByRecursion AreRowsIfAny) (AllByRecursion AreRowsIfAny) (next_rows section told number so_far) (rows_of_rest section told (number + 1) rest)
    (goes_on AreRowsIfAny (AllByRecursion AreRowsIfAny) (rows_of_unit section told number (row_count so_far)) (λ rows. Ok (so_far ++ rows ∷ [])) (of_unit section told number (row_count so_far))
    (λ rows is. all_push AreRowsIfAny so_far rows all is))
    (λ more is. of_rest section told (number + 1) rest more is)

all_units : (file : List ℕ) → Of (AllByRecursion AreRowsIfAny) (rows_read file)
unfolding rows_read rows_of_units
all_units file = of_rest (section_at file (codes ".debug_line")) (units_in file) 0 (units_in file).units [] tt

listed : {X : Type 0} (P : X → Type 0) (r : Result (List X) Place) → Of (AllByRecursion P) r → AllByRecursion P (list_or_none r)
listed P (Ok list) all = all
listed P (Err place) all = tt

-- ---- sequences

AreIn : Sequence → Type 0
AreIn sequence = AllByRecursion IsRow sequence.rows

onto : {X : Type 0} (P : X → Type 0) (x : X) (parts : List (List X)) → P x → AllByRecursion (AllByRecursion P) parts → AllByRecursion (AllByRecursion P) (onto_first x parts)
onto P x [] is all = ((is, tt), tt)
onto P x (part ∷ parts) is all = ((is, all.0), all.1)

parts : {X : Type 0} (P : X → Type 0) (test : X → Bool) (xs : List X) → AllByRecursion P xs → AllByRecursion (AllByRecursion P) (slice_split test xs)
parts P test [] all = (tt, tt)
parts P test (x ∷ xs) all =
    let rest = parts P test xs all.1 in
    either_all (AllByRecursion P) (test x) ([] ∷ slice_split test xs) (onto_first x (slice_split test xs)) (tt, rest) (onto P x (slice_split test xs) all.0 rest)

zipped : (pieces : List (List Row)) (last : List Row) → AllByRecursion (AllByRecursion IsRow) pieces → AllByRecursion AreIn (map (λ p. record { rows = p.0; end = p.1 }) (zip pieces last))
unfolding AreIn
zipped [] last all = tt
zipped (piece ∷ pieces) [] all = tt
zipped (piece ∷ pieces) (end ∷ last) all = (all.0, zipped pieces last all.1)

live : (file : List ℕ) (rows : List Row) → AllByRecursion IsRow rows → AllByRecursion AreIn (live_sequences file rows)
live file rows all = all_filtered AreIn _ (sequences_of rows) (zipped (slice_split ends rows) (filter ends rows) (parts IsRow ends rows all))

abbrev AreSequences : Option (List Sequence) → Type 0
AreSequences None = ⊤
AreSequences (Some sequences) = AllByRecursion AreIn sequences

tables : (file : List ℕ) (units : List (Option (List Row))) → AllByRecursion AreRowsIfAny units → AllByRecursion AreSequences (map (option_map (live_sequences file)) units)
tables file [] all = tt
tables file (None ∷ units) all = (tt, tables file units all.1)
tables file (Some rows ∷ units) all = (live file rows all.0, tables file units all.1)

-- ---- the row of an address

turned_onto : {X : Type 0} (P : X → Type 0) (xs more : List X) → AllByRecursion P xs → AllByRecursion P more → AllByRecursion P (reverse_aux xs more)
turned_onto P [] more all behind = behind
turned_onto P (x ∷ xs) more all behind = turned_onto P xs (x ∷ more) all.1 (all.0, behind)

turned : {X : Type 0} (P : X → Type 0) (xs : List X) → AllByRecursion P xs → AllByRecursion P (reverse xs)
turned P xs all = turned_onto P xs [] all tt

row_found : (sequences : List Sequence) (address : ℕ) → AllByRecursion AreIn sequences → OfSome IsRow (row_among sequences address)
unfolding AreIn
row_found sequences address all = by (find (holds address) sequences) (one_found AreIn (holds address) sequences all)
  where
    by : (o : Option Sequence) → OfSome AreIn o → OfSome IsRow (option_and_then (row_of_sequence address) o)
    by None is = tt
    by (Some sequence) is = one_found IsRow (λ row. nat_le row.address address) (reverse sequence.rows) (turned IsRow sequence.rows is)

at_number : {X : Type 0} (P : X → Type 0) (xs : List X) (n : ℕ) → AllByRecursion P xs → OfSome P (slice_get xs n)
at_number P [] n all = tt
at_number P (x ∷ xs) zero all = all.0
at_number P (x ∷ xs) (suc n) all = at_number P xs n all.1

pub rows_have_discriminators : RowsHaveDiscriminators
rows_have_discriminators file unit address =
    by_table (slice_get (tables_in file) unit) (at_number AreSequences (tables_in file) unit (tables file (list_or_none (rows_read file)) (listed AreRowsIfAny (rows_read file) (all_units file))))
  where
    with_row_of : (o : Option Row) → OfSome IsRow o → HasDisc (option_map (λ row. (row.line, row.disc)) o)
    with_row_of None is = tt
    with_row_of (Some row) is = is

    by_table : (o : Option (Option (List Sequence))) → OfSome AreSequences o
        → HasDisc (option_map (λ row. (row.line, row.disc)) (option_and_then (λ table. row_among table address) (option_and_then (λ table. table) o)))
    by_table None is = tt
    by_table (Some None) is = tt
    by_table (Some (Some sequences)) is = with_row_of (row_among sequences address) (row_found sequences address is)
