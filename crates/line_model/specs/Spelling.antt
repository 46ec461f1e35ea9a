-- Which bytes are which operation (DWARF 5, section 6.2.5), and what an operation comes to by its bytes.
use Rattle.std.specs.Prelude.{◌≡◌, ◌≤◌, ◌<◌, ◌-◌, ℕ, zero, suc, ℤ, List, [], ◌∷◌, ◌++◌, length, Option, None, Some, slice_index}
use Rattle.byte_view.specs.Reading.{SpellsField, SpellsUleb, SpellsSleb}
use Rattle.line_model.specs.declared.operation.Operation.{Operation}
use Rattle.line_model.specs.declared.operation.Operation.TheVariants.{Special, Pass}
use Rattle.line_model.specs.Header.{Header}
use Rattle.line_model.specs.Opcodes.{Operand, alone, unsigned, signed, fixed, standard_opcodes, extended_opcodes, look_up}
use Rattle.line_model.specs.Registers.{Registers, Step, step_of}

-- The bytes of an operand, and the operation that they make.
abbrev pub SpellsOperand : Operand → List ℕ → Operation → Type 0
SpellsOperand (alone made) bytes operation = (bytes ≡ []) × (operation ≡ made)
SpellsOperand (unsigned make) bytes operation = (n : ℕ) × SpellsUleb bytes n × (operation ≡ make n)
SpellsOperand (signed make) bytes operation = (z : ℤ) × SpellsSleb bytes z × (operation ≡ make z)
SpellsOperand (fixed size make) bytes operation = (n : ℕ) × SpellsField size bytes n × (operation ≡ make n)

-- So many unsigned LEB128 numbers, one behind the other.
abbrev pub AreUlebs : ℕ → List ℕ → Type 0
AreUlebs zero bytes = bytes ≡ []
AreUlebs (suc count) bytes =
    (first : List ℕ) × (n : ℕ) × (more : List ℕ) × (bytes ≡ first ++ more) × SpellsUleb first n × AreUlebs count more

-- The bytes behind a code of an extended opcode begin with its operand; what is left over is passed over, but for
-- the operand of a fixed size, which fills them.
abbrev pub SpellsWithin : Option Operand → List ℕ → Operation → Type 0
SpellsWithin None bytes operation = operation ≡ Pass
SpellsWithin (Some (alone made)) bytes operation = operation ≡ made
SpellsWithin (Some (fixed size make)) bytes operation = SpellsOperand (fixed size make) bytes operation
SpellsWithin (Some operand) bytes operation =
    (front : List ℕ) × (over : List ℕ) × (bytes ≡ front ++ over) × SpellsOperand operand front operation

-- A special opcode is a byte.
pub record IsSpecial (header : Header) (opcode : ℕ) (bytes : List ℕ) (operation : Operation) : Type 0 where
  pub from_base : header.opcode_base ≤ opcode
  pub nothing_behind : bytes ≡ []
  pub operation_is : operation ≡ Special (opcode - header.opcode_base)

-- A standard opcode that is known has the operand that its table says, whatever the header says of it.
pub record IsStandard (header : Header) (opcode : ℕ) (bytes : List ℕ) (operation : Operation) : Type 0 where
  pub below_base : opcode < header.opcode_base
  pub standard : 0 < opcode
  pub operand : Operand
  pub known : look_up standard_opcodes opcode ≡ Some operand
  pub spelled : SpellsOperand operand bytes operation

-- One that is not known has as many operands as the header says.
pub record IsUnknown (header : Header) (opcode : ℕ) (bytes : List ℕ) (operation : Operation) : Type 0 where
  pub below_base : opcode < header.opcode_base
  pub standard : 0 < opcode
  pub unknown : look_up standard_opcodes opcode ≡ None
  pub operands : AreUlebs (slice_index header.opcode_lengths (opcode - 1)) bytes
  pub operation_is : operation ≡ Pass

-- An extended opcode is a 0, a length, and that many bytes, of which the first is the code.
pub record IsExtended (header : Header) (opcode : ℕ) (bytes : List ℕ) (operation : Operation) : Type 0 where
  pub below_base : opcode < header.opcode_base
  pub extended : opcode ≡ 0
  pub length_bytes : List ℕ
  pub code : ℕ
  pub behind : List ℕ
  pub bytes_are : bytes ≡ length_bytes ++ code ∷ behind
  pub sized : SpellsUleb length_bytes (length (code ∷ behind))
  pub spelled : SpellsWithin (look_up extended_opcodes code) behind operation

-- The four kinds of opcodes.
pub data IsOpcode (header : Header) (opcode : ℕ) (bytes : List ℕ) (operation : Operation) : Type 0 where
  special : IsSpecial header opcode bytes operation → IsOpcode header opcode bytes operation
  standard : IsStandard header opcode bytes operation → IsOpcode header opcode bytes operation
  unknown : IsUnknown header opcode bytes operation → IsOpcode header opcode bytes operation
  extended : IsExtended header opcode bytes operation → IsOpcode header opcode bytes operation

-- The bytes of an operation: its opcode, and what is behind it.
abbrev pub Spells : Header → List ℕ → Operation → Type 0
Spells header [] operation = ⊥
Spells header (opcode ∷ bytes) operation = IsOpcode header opcode bytes operation

-- One operation, by the registers before it, its bytes, and what it comes to.
pub record Operates (header : Header) (before : Registers) (bytes : List ℕ) (step : Step) : Type 0 where
  pub operation : Operation
  pub spelled : Spells header bytes operation
  pub comes_to : step_of header before operation ≡ Some step
