-- The opcodes that are known, as the standard's tables list them (DWARF 5, sections 6.2.5.2 and 6.2.5.3).
use Rattle.std.specs.Prelude.{ℕ, ℤ, ◌^◌, ◌%◌, ◌==◌, if◌then◌else◌, List, [], ◌∷◌, Option, None, Some}
use Rattle.line_model.specs.declared.operation.Operation.{Operation}
use Rattle.line_model.specs.declared.operation.Operation.TheVariants.{Copy, AdvancePc, AdvanceLine, ConstAddPc, FixedAdvancePc, EndSequence, SetAddress, SetDiscriminator, Pass}

-- What stands behind an opcode, and the operation that both are.
pub data Operand : Type 0 where
  -- Nothing.
  alone : Operation → Operand
  -- An unsigned LEB128 number.
  unsigned : (ℕ → Operation) → Operand
  -- A signed LEB128 number.
  signed : (ℤ → Operation) → Operand
  -- A field of so many bytes, the lowest first.
  fixed : ℕ → (ℕ → Operation) → Operand

-- An operand that changes nothing of a row.
abbrev pub ignored : ℕ → Operation
ignored n = Pass

-- A discriminator is a number modulo 2^32.
abbrev pub set_discriminator : ℕ → Operation
set_discriminator n = SetDiscriminator (n % 2 ^ 32)

-- The standard opcodes.
abbrev pub standard_opcodes : List (ℕ × Operand)
standard_opcodes =
    (1, alone Copy) ∷  -- DW_LNS_copy
    (2, unsigned AdvancePc) ∷  -- DW_LNS_advance_pc
    (3, signed AdvanceLine) ∷  -- DW_LNS_advance_line
    (4, unsigned ignored) ∷  -- DW_LNS_set_file
    (5, unsigned ignored) ∷  -- DW_LNS_set_column
    (6, alone Pass) ∷  -- DW_LNS_negate_stmt
    (7, alone Pass) ∷  -- DW_LNS_set_basic_block
    (8, alone ConstAddPc) ∷  -- DW_LNS_const_add_pc
    (9, fixed 2 FixedAdvancePc) ∷  -- DW_LNS_fixed_advance_pc
    (10, alone Pass) ∷  -- DW_LNS_set_prologue_end
    (11, alone Pass) ∷  -- DW_LNS_set_epilogue_begin
    (12, unsigned ignored) ∷  -- DW_LNS_set_isa
    []

-- The extended opcodes. DW_LNE_define_file, like those that are not known, is passed over.
abbrev pub extended_opcodes : List (ℕ × Operand)
extended_opcodes =
    (1, alone EndSequence) ∷  -- DW_LNE_end_sequence
    (2, fixed 8 SetAddress) ∷  -- DW_LNE_set_address
    (3, alone Pass) ∷  -- DW_LNE_define_file
    (4, unsigned set_discriminator) ∷  -- DW_LNE_set_discriminator
    []

-- What a table has for a code.
abbrev pub look_up : List (ℕ × Operand) → ℕ → Option Operand
look_up [] code = None
look_up ((first, operand) ∷ rest) code = if code == first then Some operand else look_up rest code
