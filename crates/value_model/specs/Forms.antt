-- The forms: for each code how its bytes are laid out, and the class of the value that they spell.
use Rattle.std.specs.Prelude.{ℕ, Bool, true, not, ◌==◌, if◌then◌else◌, ℤ, List, [], ◌∷◌, Option, None, Some}
use Rattle.value_model.specs.Value.{Value, addr, const, flag, str_at, line_str_at, str_index, addr_index, ref_info, ref, sig, offset, loc_index, range_index, twos_complement_of}

-- What stands in an entry for a value, and the value that it is.
pub data Operand : Type 0 where
  -- A field of so many bytes, the lowest first.
  field : ℕ → (ℕ → Value) → Operand
  -- An unsigned LEB128 number.
  unsigned : (ℕ → Value) → Operand
  -- A signed LEB128 number.
  signed : (ℤ → Value) → Operand
  -- An offset: a field of 4 bytes in 32-bit DWARF, of 8 bytes in 64-bit DWARF.
  offset_field : (ℕ → Value) → Operand
  -- A run of so many bytes.
  run : ℕ → Operand
  -- A run of bytes behind its length, which is a field of so many bytes.
  counted : ℕ → Operand
  -- A run of bytes behind its length, which is an unsigned LEB128 number.
  counted_uleb : Operand
  -- A text up to its NUL.
  text_operand : Operand
  -- Nothing: the form is the value.
  nothing : Value → Operand
  -- Nothing: the value stands in the abbreviation.
  in_abbreviation : Operand
  -- The code of another form, and what that form has.
  other_form : Operand

-- A byte that is not 0 is a flag that is set.
abbrev pub flag_of : ℕ → Value
flag_of byte = flag (not (byte == 0))

-- A constant that is written with a sign.
abbrev pub signed_const : ℤ → Value
signed_const z = const (twos_complement_of z)

-- DWARF 5, section 7.5.6, table 7.6: the forms that are read. DW_FORM_ref_sup4 (1c), DW_FORM_strp_sup (1d) and
-- DW_FORM_ref_sup8 (24) lead into another file, and are not.
abbrev pub forms : List (ℕ × Operand)
forms =
    (0x01, field 8 addr) ∷
    (0x03, counted 2) ∷
    (0x04, counted 4) ∷
    (0x05, field 2 const) ∷
    (0x06, field 4 const) ∷
    (0x07, field 8 const) ∷
    (0x08, text_operand) ∷
    (0x09, counted_uleb) ∷
    (0x0a, counted 1) ∷
    (0x0b, field 1 const) ∷
    (0x0c, field 1 flag_of) ∷
    (0x0d, signed signed_const) ∷
    (0x0e, offset_field str_at) ∷
    (0x0f, unsigned const) ∷
    (0x10, offset_field ref_info) ∷
    (0x11, field 1 ref) ∷
    (0x12, field 2 ref) ∷
    (0x13, field 4 ref) ∷
    (0x14, field 8 ref) ∷
    (0x15, unsigned ref) ∷
    (0x16, other_form) ∷
    (0x17, offset_field offset) ∷
    (0x18, counted_uleb) ∷
    (0x19, nothing (flag true)) ∷
    (0x1a, unsigned str_index) ∷
    (0x1b, unsigned addr_index) ∷
    (0x1e, run 16) ∷
    (0x1f, offset_field line_str_at) ∷
    (0x20, field 8 sig) ∷
    (0x21, in_abbreviation) ∷
    (0x22, unsigned loc_index) ∷
    (0x23, unsigned range_index) ∷
    (0x25, field 1 str_index) ∷
    (0x26, field 2 str_index) ∷
    (0x27, field 3 str_index) ∷
    (0x28, field 4 str_index) ∷
    (0x29, field 1 addr_index) ∷
    (0x2a, field 2 addr_index) ∷
    (0x2b, field 3 addr_index) ∷
    (0x2c, field 4 addr_index) ∷
    []

-- What a table has for a code.
abbrev pub look_up : List (ℕ × Operand) → ℕ → Option Operand
look_up [] code = None
look_up ((first, operand) ∷ rest) code = if code == first then Some operand else look_up rest code

-- What stands in an entry for a form, where the form is read.
unfoldable pub operand_of : ℕ → Option Operand
operand_of code = look_up forms code

-- The size of an offset, in 64-bit DWARF and in 32-bit DWARF (DWARF 5, section 7.4).
abbrev pub offset_size : Bool → ℕ
offset_size wide = if wide then 8 else 4
