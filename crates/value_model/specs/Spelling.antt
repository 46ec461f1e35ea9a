-- Which bytes spell which value, a case for each form (DWARF 5, section 7.5.6, table 7.6).
use Rattle.std.specs.Prelude.{◌≡◌, ℕ, ℤ, Bool, true, List, [], ◌++◌, length}
use Rattle.byte_view.specs.Reading.{SpellsField, SpellsRun, SpellsText, SpellsUleb, SpellsSleb}
use Rattle.value_model.specs.Value.{Value, addr, block, const, text, flag, str_at, line_str_at, str_index, addr_index, ref_info, ref, sig, offset, loc_index, range_index}
use Rattle.value_model.specs.Forms.{flag_of, signed_const, offset_size}

-- An offset is a field, whose size is that of the unit's offsets.
abbrev pub SpellsOffset : Bool → List ℕ → ℕ → Type 0
SpellsOffset wide = SpellsField (offset_size wide)

-- A run of bytes stands behind its length.
pub record SpellsCounted (SpellsLength : List ℕ → ℕ → Type 0) (bytes run : List ℕ) : Type 0 where
  pub head : List ℕ
  pub counted : SpellsLength head (length run)
  pub value : bytes ≡ head ++ run

-- The bytes spell the value in a form that needs no abbreviation. Offsets are wide in a unit of 64-bit DWARF.
pub data SpellsDirect (wide : Bool) : ℕ → List ℕ → Value → Type 0 where
  DW_FORM_addr : (bytes : List ℕ) (n : ℕ) → SpellsField 8 bytes n → SpellsDirect wide 0x01 bytes (addr n)
  DW_FORM_block2 : (bytes run : List ℕ) → SpellsCounted (SpellsField 2) bytes run
      → SpellsDirect wide 0x03 bytes (block run)
  DW_FORM_block4 : (bytes run : List ℕ) → SpellsCounted (SpellsField 4) bytes run
      → SpellsDirect wide 0x04 bytes (block run)
  DW_FORM_data2 : (bytes : List ℕ) (n : ℕ) → SpellsField 2 bytes n → SpellsDirect wide 0x05 bytes (const n)
  DW_FORM_data4 : (bytes : List ℕ) (n : ℕ) → SpellsField 4 bytes n → SpellsDirect wide 0x06 bytes (const n)
  DW_FORM_data8 : (bytes : List ℕ) (n : ℕ) → SpellsField 8 bytes n → SpellsDirect wide 0x07 bytes (const n)
  DW_FORM_string : (bytes run : List ℕ) → SpellsText bytes run → SpellsDirect wide 0x08 bytes (text run)
  DW_FORM_block : (bytes run : List ℕ) → SpellsCounted SpellsUleb bytes run → SpellsDirect wide 0x09 bytes (block run)
  DW_FORM_block1 : (bytes run : List ℕ) → SpellsCounted (SpellsField 1) bytes run
      → SpellsDirect wide 0x0a bytes (block run)
  DW_FORM_data1 : (bytes : List ℕ) (n : ℕ) → SpellsField 1 bytes n → SpellsDirect wide 0x0b bytes (const n)
  DW_FORM_flag : (bytes : List ℕ) (n : ℕ) → SpellsField 1 bytes n → SpellsDirect wide 0x0c bytes (flag_of n)
  DW_FORM_sdata : (bytes : List ℕ) (z : ℤ) → SpellsSleb bytes z → SpellsDirect wide 0x0d bytes (signed_const z)
  DW_FORM_strp : (bytes : List ℕ) (n : ℕ) → SpellsOffset wide bytes n → SpellsDirect wide 0x0e bytes (str_at n)
  DW_FORM_udata : (bytes : List ℕ) (n : ℕ) → SpellsUleb bytes n → SpellsDirect wide 0x0f bytes (const n)
  DW_FORM_ref_addr : (bytes : List ℕ) (n : ℕ) → SpellsOffset wide bytes n → SpellsDirect wide 0x10 bytes (ref_info n)
  DW_FORM_ref1 : (bytes : List ℕ) (n : ℕ) → SpellsField 1 bytes n → SpellsDirect wide 0x11 bytes (ref n)
  DW_FORM_ref2 : (bytes : List ℕ) (n : ℕ) → SpellsField 2 bytes n → SpellsDirect wide 0x12 bytes (ref n)
  DW_FORM_ref4 : (bytes : List ℕ) (n : ℕ) → SpellsField 4 bytes n → SpellsDirect wide 0x13 bytes (ref n)
  DW_FORM_ref8 : (bytes : List ℕ) (n : ℕ) → SpellsField 8 bytes n → SpellsDirect wide 0x14 bytes (ref n)
  DW_FORM_ref_udata : (bytes : List ℕ) (n : ℕ) → SpellsUleb bytes n → SpellsDirect wide 0x15 bytes (ref n)
  DW_FORM_sec_offset : (bytes : List ℕ) (n : ℕ) → SpellsOffset wide bytes n → SpellsDirect wide 0x17 bytes (offset n)
  DW_FORM_exprloc : (bytes run : List ℕ) → SpellsCounted SpellsUleb bytes run → SpellsDirect wide 0x18 bytes (block run)
  DW_FORM_flag_present : SpellsDirect wide 0x19 [] (flag true)
  DW_FORM_strx : (bytes : List ℕ) (n : ℕ) → SpellsUleb bytes n → SpellsDirect wide 0x1a bytes (str_index n)
  DW_FORM_addrx : (bytes : List ℕ) (n : ℕ) → SpellsUleb bytes n → SpellsDirect wide 0x1b bytes (addr_index n)
  DW_FORM_data16 : (bytes run : List ℕ) → SpellsRun 16 bytes run → SpellsDirect wide 0x1e bytes (block run)
  DW_FORM_line_strp : (bytes : List ℕ) (n : ℕ) → SpellsOffset wide bytes n
      → SpellsDirect wide 0x1f bytes (line_str_at n)
  DW_FORM_ref_sig8 : (bytes : List ℕ) (n : ℕ) → SpellsField 8 bytes n → SpellsDirect wide 0x20 bytes (sig n)
  DW_FORM_loclistx : (bytes : List ℕ) (n : ℕ) → SpellsUleb bytes n → SpellsDirect wide 0x22 bytes (loc_index n)
  DW_FORM_rnglistx : (bytes : List ℕ) (n : ℕ) → SpellsUleb bytes n → SpellsDirect wide 0x23 bytes (range_index n)
  DW_FORM_strx1 : (bytes : List ℕ) (n : ℕ) → SpellsField 1 bytes n → SpellsDirect wide 0x25 bytes (str_index n)
  DW_FORM_strx2 : (bytes : List ℕ) (n : ℕ) → SpellsField 2 bytes n → SpellsDirect wide 0x26 bytes (str_index n)
  DW_FORM_strx3 : (bytes : List ℕ) (n : ℕ) → SpellsField 3 bytes n → SpellsDirect wide 0x27 bytes (str_index n)
  DW_FORM_strx4 : (bytes : List ℕ) (n : ℕ) → SpellsField 4 bytes n → SpellsDirect wide 0x28 bytes (str_index n)
  DW_FORM_addrx1 : (bytes : List ℕ) (n : ℕ) → SpellsField 1 bytes n → SpellsDirect wide 0x29 bytes (addr_index n)
  DW_FORM_addrx2 : (bytes : List ℕ) (n : ℕ) → SpellsField 2 bytes n → SpellsDirect wide 0x2a bytes (addr_index n)
  DW_FORM_addrx3 : (bytes : List ℕ) (n : ℕ) → SpellsField 3 bytes n → SpellsDirect wide 0x2b bytes (addr_index n)
  DW_FORM_addrx4 : (bytes : List ℕ) (n : ℕ) → SpellsField 4 bytes n → SpellsDirect wide 0x2c bytes (addr_index n)

-- The bytes spell the value in the form of this code. `implicit` is the constant that the abbreviation has for
-- DW_FORM_implicit_const. DW_FORM_indirect has the code of one of the forms above, and what that form has.
pub data Spells (implicit : ℤ) (wide : Bool) : ℕ → List ℕ → Value → Type 0 where
  direct : (form : ℕ) (bytes : List ℕ) (value : Value) → SpellsDirect wide form bytes value
      → Spells implicit wide form bytes value
  DW_FORM_indirect : (form : ℕ) (head bytes : List ℕ) (value : Value) → SpellsUleb head form
      → SpellsDirect wide form bytes value → Spells implicit wide 0x16 (head ++ bytes) value
  DW_FORM_implicit_const : Spells implicit wide 0x21 [] (signed_const implicit)
