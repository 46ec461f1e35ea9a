-- The registers that a row is made of, and what each operation does to them (DWARF 5, sections 6.2.2 and 6.2.5).
use Rattle.std.specs.Prelude.{ℕ, ℤ, pos, negsuc, ◌+◌, ◌-◌, ◌*◌, ◌/◌, ◌%◌, ◌^◌, ◌+ℤ◌, nat_lt, Bool, true, false, Option, None, Some, if◌then◌else◌}
use Rattle.std.specs.Option.{option_map}
use Rattle.line_model.specs.declared.row.Row.{Row}
use Rattle.line_model.specs.declared.operation.Operation.{Operation}
use Rattle.line_model.specs.declared.operation.Operation.TheVariants.{Special, Copy, AdvancePc, AdvanceLine, ConstAddPc, FixedAdvancePc, EndSequence, SetAddress, SetDiscriminator, Pass}
use Rattle.line_model.specs.Header.{Header}

-- The registers.
pub record Registers : Type 0 where
  pub address : ℕ
  pub line : ℕ
  pub disc : ℕ

-- What the registers are at the start, and behind the end of each sequence.
abbrev pub start : Registers
start = record { address = 0; line = 1; disc = 0 }

-- What an operation comes to: the row that it adds, if it adds one, and the registers behind it.
pub record Step : Type 0 where
  pub row : Option Row
  pub registers : Registers

-- The row of the registers.
abbrev pub row_of : Bool → Registers → Row
row_of ends r = record { address = r.address; line = r.line; disc = r.disc; ends = ends }

-- No row is added.
abbrev pub without_row : Registers → Step
without_row r = record { row = None; registers = r }

-- A row is added, and the discriminator is 0 behind it.
abbrev pub with_row : Registers → Step
with_row r = record { row = Some (row_of false r); registers = record r { disc = 0 } }

-- The row that ends a sequence is added, and the registers begin anew.
abbrev pub with_end : Registers → Step
with_end r = record { row = Some (row_of true r); registers = start }

-- Addresses are numbers modulo 2^64.
abbrev pub bytes_on : ℕ → Registers → Registers
bytes_on bytes r = record r { address = (r.address + bytes) % 2 ^ 64 }

-- So many instructions further on.
abbrev pub instructions_on : Header → ℕ → Registers → Registers
instructions_on header instructions r = bytes_on (instructions * header.min_inst_length) r

-- A line is a number from 0 to 2^32 - 1.
abbrev pub line_of : ℤ → Option ℕ
line_of (pos line) = if nat_lt line (2 ^ 32) then Some line else None
line_of (negsuc below) = None

-- So many lines further on or back, where that is a line.
abbrev pub lines_on : ℤ → Registers → Option Registers
lines_on lines r = option_map (λ line. record r { line = line }) (line_of (pos r.line +ℤ lines))

-- By how many instructions a special opcode, counted from the first one, moves the address.
abbrev pub special_instructions : Header → ℕ → ℕ
special_instructions header adjusted = adjusted / header.line_range

-- By how many lines a special opcode, counted from the first one, moves the line.
abbrev pub special_lines : Header → ℕ → ℤ
special_lines header adjusted = header.line_base +ℤ pos (adjusted % header.line_range)

-- What each operation comes to. There is nothing where the line would leave its numbers.
abbrev pub step_of : Header → Registers → Operation → Option Step
step_of header r (Special adjusted) =
    option_map with_row
    (lines_on (special_lines header adjusted) (instructions_on header (special_instructions header adjusted) r))
step_of header r Copy = Some (with_row r)
step_of header r (AdvancePc instructions) = Some (without_row (instructions_on header instructions r))
step_of header r (AdvanceLine lines) = option_map without_row (lines_on lines r)
step_of header r ConstAddPc =
    Some (without_row (instructions_on header (special_instructions header (255 - header.opcode_base)) r))
step_of header r (FixedAdvancePc bytes) = Some (without_row (bytes_on bytes r))
step_of header r EndSequence = Some (with_end r)
step_of header r (SetAddress address) = Some (without_row (record r { address = address }))
step_of header r (SetDiscriminator disc) = Some (without_row (record r { disc = disc }))
step_of header r Pass = Some (without_row r)
