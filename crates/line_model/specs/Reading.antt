-- The operation at the front of some bytes, or the first cause that stands in its way.
use Rattle.std.specs.Prelude.{◌-◌, ◌==◌, ℕ, zero, suc, nat_le, if◌then◌else◌, List, length, Option, None, Some, Result, Ok, Err, slice_index}
use Rattle.byte_view.specs.Reading.{Reading, field_at, run_at, uleb_at, sleb_at}
use Rattle.placed_view.specs.Reader.{kind_of}
use Rattle.refusal.specs.declared.kind.Kind.{Kind}
use Rattle.refusal.specs.declared.kind.Kind.TheVariants.{BadExtended}
use Rattle.line_model.specs.declared.operation.Operation.{Operation}
use Rattle.line_model.specs.declared.operation.Operation.TheVariants.{Special, Pass}
use Rattle.line_model.specs.Header.{Header}
use Rattle.line_model.specs.Opcodes.{Operand, alone, unsigned, signed, fixed, standard_opcodes, extended_opcodes, look_up}

-- An operation at the front and the bytes behind it, or why there is none.
abbrev pub OperationReading : Type 0
OperationReading = Result (Operation × List ℕ) Kind

-- What was read makes an operation.
abbrev pub made : {X : Type 0} → (X → Operation) → Reading X → OperationReading
made make (Ok (x, rest)) = Ok (make x, rest)
made make (Err fault) = Err (kind_of fault)

-- An operand.
abbrev pub operand_at : Operand → List ℕ → OperationReading
operand_at (alone operation) bytes = Ok (operation, bytes)
operand_at (unsigned make) bytes = made make (uleb_at bytes)
operand_at (signed make) bytes = made make (sleb_at bytes)
operand_at (fixed size make) bytes = made make (field_at size bytes)

-- What follows a number that is passed over.
abbrev pub behind_number : (List ℕ → OperationReading) → Reading ℕ → OperationReading
behind_number follows (Ok (n, rest)) = follows rest
behind_number follows (Err fault) = Err (kind_of fault)

-- So many unsigned LEB128 numbers, which are passed over.
unfoldable pub ulebs_at : ℕ → List ℕ → OperationReading
ulebs_at zero bytes = Ok (Pass, bytes)
ulebs_at (suc count) bytes = behind_number (ulebs_at count) (uleb_at bytes)

-- The operation of an opcode that is known, or of one that has so many operands.
abbrev pub standard_at : Option Operand → ℕ → List ℕ → OperationReading
standard_at (Some operand) count bytes = operand_at operand bytes
standard_at None count bytes = ulebs_at count bytes

-- An operation was read from bytes of its own; `rest` is what stands behind them.
abbrev pub then_rest : List ℕ → OperationReading → OperationReading
then_rest rest (Ok (operation, over)) = Ok (operation, rest)
then_rest rest (Err kind) = Err kind

-- The operand of an extended opcode, in the bytes behind its code. One of a fixed size fills them.
abbrev pub within_at : Option Operand → List ℕ → OperationReading
within_at None bytes = Ok (Pass, bytes)
within_at (Some (fixed size make)) bytes =
    if length bytes == size then made make (field_at size bytes) else Err BadExtended
within_at (Some operand) bytes = operand_at operand bytes

-- The operation of the code of an extended opcode, which has to be there.
abbrev pub of_code : Reading ℕ → OperationReading
of_code (Ok (code, bytes)) = within_at (look_up extended_opcodes code) bytes
of_code (Err fault) = Err BadExtended

-- The bytes of an extended opcode: its code, and what is behind it.
unfoldable pub code_at : List ℕ → OperationReading
code_at bytes = of_code (field_at 1 bytes)

-- The bytes of an extended opcode were read.
abbrev pub of_run : Reading (List ℕ) → OperationReading
of_run (Ok (run, rest)) = then_rest rest (code_at run)
of_run (Err fault) = Err (kind_of fault)

-- As many bytes as a length says are an extended opcode.
abbrev pub of_length : Reading ℕ → OperationReading
of_length (Ok (size, bytes)) = of_run (run_at size bytes)
of_length (Err fault) = Err (kind_of fault)

-- An extended opcode behind its 0.
unfoldable pub extended_at : List ℕ → OperationReading
extended_at bytes = of_length (uleb_at bytes)

-- The operation of an opcode that is not special.
abbrev pub below_base_at : Header → ℕ → List ℕ → OperationReading
below_base_at header opcode bytes =
    if opcode == 0 then extended_at bytes
    else standard_at (look_up standard_opcodes opcode) (slice_index header.opcode_lengths (opcode - 1)) bytes

-- The operation of an opcode, with the bytes behind it.
abbrev pub opcode_at : Header → ℕ → List ℕ → OperationReading
opcode_at header opcode bytes =
    if nat_le header.opcode_base opcode then Ok (Special (opcode - header.opcode_base), bytes)
    else below_base_at header opcode bytes

-- The operation of the opcode that was read.
abbrev pub of_opcode : Header → Reading ℕ → OperationReading
of_opcode header (Ok (opcode, bytes)) = opcode_at header opcode bytes
of_opcode header (Err fault) = Err (kind_of fault)

-- The operation at the front.
unfoldable pub operation_at : Header → List ℕ → OperationReading
operation_at header bytes = of_opcode header (field_at 1 bytes)
