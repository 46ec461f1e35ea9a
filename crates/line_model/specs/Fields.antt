-- The header of a program, field by field, with the place at which one is refused (DWARF 5, sections 6.2.4 and 7.4).
use Rattle.std.specs.Prelude.{◌+◌, ◌-◌, ◌==◌, ℕ, Bool, true, false, not, ◌||◌, nat_lt, nat_le, if◌then◌else◌, List, length, Result, Ok, Err}
use Rattle.refusal.specs.declared.kind.Kind.{Kind}
use Rattle.refusal.specs.declared.kind.Kind.TheVariants.{Short, BadUnitLength, BadVersion, BadAddressSize, ManyOperations, BadLineRange, BadOpcodeBase}
use Rattle.refusal.specs.declared.place.Place.{Place}
use Rattle.refusal.specs.Place.{in_binary}
use Rattle.byte_view.specs.Cursor.{Cursor}
use Rattle.byte_view.specs.Leb.{twos_complement}
use Rattle.byte_view.specs.Reading.{Reading, field_at, run_at}
use Rattle.line_model.specs.Header.{Header}

-- What is read where a field is good, and else the field's place.
abbrev pub Judged : Type 0 → Type 0
Judged X = Result X Place

-- A field, and then what follows it.
infixl 10 ◌>>=◌
abbrev pub ◌>>=◌ : {X Y : Type 0} → Judged X → (X → Judged Y) → Judged Y
(Ok x) >>= follows = follows x
(Err place) >>= follows = Err place

-- What is read is good where this does not hold.
abbrev pub unless : {X : Type 0} → Bool → Place → X → Judged X
unless cause place x = if cause then Err place else Ok x

-- What was read of so many bytes, and the cursor behind them.
abbrev pub passed : {X : Type 0} → ℕ → Cursor → Place → Reading X → Judged (X × Cursor)
passed size cur place (Ok (x, rest)) = Ok (x, record { at = cur.at + size; left = rest })
passed size cur place (Err fault) = Err place

-- A field that has to be there.
abbrev pub field_or : Place → ℕ → Cursor → Judged (ℕ × Cursor)
field_or place size cur = passed size cur place (field_at size cur.left)

-- A run of bytes that has to be there.
abbrev pub run_or : Place → ℕ → Cursor → Judged (List ℕ × Cursor)
run_or place size cur = passed size cur place (run_at size cur.left)

-- A field of the program, which has to be within it.
abbrev pub field : ℕ → Cursor → Judged (ℕ × Cursor)
field size cur = field_or (in_binary cur.at Short) size cur

-- A field of one byte that has to be another than some.
abbrev pub byte_but : (ℕ → Bool) → Kind → Cursor → Judged (ℕ × Cursor)
byte_but is_bad kind cur = do
  byte ← field 1 cur
  unless (is_bad byte.0) (in_binary cur.at kind) byte

-- The program's bytes behind its length, as many as that says.
abbrev pub body_of : Place → Bool → ℕ × Cursor → Judged (Bool × Cursor)
body_of place wide (size, cur) = do
  body ← run_or place size cur
  Ok (wide, record { at = cur.at; left = body.0 })

-- A length behind `ff ff ff ff` has 8 bytes, and offsets in that program have too: it is 64-bit DWARF.
abbrev pub unit_of : Place → ℕ × Cursor → Judged (Bool × Cursor)
unit_of place (first, cur) =
    if first == 0xffffffff then field_or place 8 cur >>= body_of place true
    else (unless (nat_le 0xfffffff0 first) place (first, cur) >>= body_of place false)

-- The length of the program. The values from 0xfffffff0 on are reserved.
unfoldable pub unit_at : Cursor → Judged (Bool × Cursor)
unit_at start = do
  first ← field_or (in_binary start.at BadUnitLength) 4 start
  unit_of (in_binary start.at BadUnitLength) first

-- The version: 2 to 5 are read.
unfoldable pub version_at : Cursor → Judged (ℕ × Cursor)
version_at cur = do
  version ← field 2 cur
  unless (nat_lt version.0 2 || nat_lt 5 version.0) (in_binary cur.at BadVersion) version

-- The size of an address, which has to be 8, and that of a segment selector.
abbrev pub behind_sizes : Cursor → Judged Cursor
behind_sizes cur = do
  size ← byte_but (λ size. not (size == 8)) BadAddressSize cur
  selector ← field 1 size.1
  Ok selector.1

-- The sizes of an address and of a segment selector, which stand in version 5 alone.
unfoldable pub sizes_at : ℕ → Cursor → Judged Cursor
sizes_at version cur = if version == 5 then behind_sizes cur else Ok cur

-- The header's length: the first opcode stands as many bytes behind it as it says. The cursor there, and the one
-- behind the length.
unfoldable pub opcodes_at : Bool → Cursor → Judged (Cursor × Cursor)
opcodes_at wide cur = do
  size ← field (if wide then 8 else 4) cur
  header ← run_or (in_binary cur.at Short) size.0 size.1
  Ok (header.1, size.1)

-- How many operations an instruction has at most. More than one is not read.
abbrev pub behind_most : Cursor → Judged Cursor
behind_most cur = do
  most ← byte_but (λ most. nat_lt 1 most) ManyOperations cur
  Ok most.1

-- The most operations of an instruction, which stand from version 4 on.
unfoldable pub operations_at : ℕ → Cursor → Judged Cursor
operations_at version cur = if nat_lt version 4 then Ok cur else behind_most cur

-- The lengths of the opcodes, each a byte and a field: the first that is not there stands at the program's end.
unfoldable pub lengths_at : ℕ → Cursor → Judged (List ℕ)
lengths_at count cur = do
  lengths ← run_or (in_binary (cur.at + length cur.left) Short) count cur
  Ok lengths.0

-- A program: its header, and its bytes from the first opcode on.
pub record Program : Type 0 where
  pub header : Header
  pub opcodes : Cursor

-- The fields that the operations go by, from the minimum instruction length on.
unfoldable pub header_at : ℕ → Cursor → Judged Header
header_at version cur = do
  min_inst_length ← field 1 cur
  operations ← operations_at version min_inst_length.1
  is_stmt ← field 1 operations
  line_base ← field 1 is_stmt.1
  line_range ← byte_but (λ range. range == 0) BadLineRange line_base.1
  opcode_base ← byte_but (λ base. base == 0) BadOpcodeBase line_range.1
  lengths ← lengths_at (opcode_base.0 - 1) opcode_base.1
  Ok (record {
    min_inst_length = min_inst_length.0;
    line_base = twos_complement 256 line_base.0;
    line_range = line_range.0;
    opcode_base = opcode_base.0;
    opcode_lengths = lengths;
  })

-- The program at a cursor over the rest of its section. What stands between the header's fields and the first opcode
-- is passed over, and where the header's length ends before its fields do, the first opcode still stands there.
unfoldable pub program_at : Cursor → Judged Program
program_at start = do
  unit ← unit_at start
  version ← version_at unit.1
  sizes ← sizes_at version.0 version.1
  opcodes ← opcodes_at unit.0 sizes
  header ← header_at version.0 opcodes.1
  Ok (record { header = header; opcodes = opcodes.0 })
