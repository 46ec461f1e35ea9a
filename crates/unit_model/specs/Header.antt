-- The header of a unit (DWARF 5, section 7.5.1; DWARF 4, section 7.5.1).
use Rattle.std.specs.Prelude.{ℕ, Bool, true, false, not, ◌==◌, ◌||◌, nat_lt, nat_le, if◌then◌else◌, length, Option, None, Some}
use Rattle.byte_view.specs.Cursor.{Cursor}
use Rattle.refusal.specs.declared.kind.Kind.TheVariants.{BadUnitLength, BadVersion, BadAddressSize, NoSection, PastSection}
use Rattle.placed_view.specs.Reader.{Reader, ◌>>=◌, ◌>>◌, gives, place, left, refuse, refuse_if, refused_as, field, cursor_behind}
use Rattle.value_model.specs.Forms.{offset_size}

-- What a header says of a unit that is read: its version, and where its abbreviations begin.
pub record Header : Type 0 where
  pub version : ℕ
  pub abbrevs : Cursor

-- A length in 64 bits, behind the 32-bit 0xffffffff: that says 64-bit DWARF (DWARF 5, section 7.4).
abbrev pub long_length : ℕ → Reader (Bool × ℕ)
long_length at = do
  size ← refused_as at BadUnitLength (field 8)
  gives (true, size)

-- A length in 32 bits. The values from 0xfffffff0 on are reserved (DWARF 5, section 7.4).
abbrev pub short_length : ℕ → ℕ → Reader (Bool × ℕ)
short_length at first = do
  refuse_if (nat_le 0xfffffff0 first) at BadUnitLength
  gives (false, first)

-- The length of a unit that stands at a place.
unfoldable pub sized : ℕ → Reader (Bool × ℕ)
sized at = do
  first ← refused_as at BadUnitLength (field 4)
  if first == 0xffffffff then long_length at else short_length at first

-- Whether a unit is 64-bit DWARF, and how many bytes it has behind its length, which are all within the section.
unfoldable pub unit_length : Reader (Bool × ℕ)
unit_length = do
  at ← place
  (wide, size) ← sized at
  room ← left
  refuse_if (nat_lt room size) at BadUnitLength
  gives (wide, size)

-- An offset leads into a section: there is one, and the offset is not above its length.
abbrev pub leads_into : Option Cursor → ℕ → ℕ → Reader Cursor
leads_into None at offset = refuse at NoSection
leads_into (Some section) at offset = do
  refuse_if (nat_lt (length section.left) offset) at PastSection
  gives (cursor_behind offset section)

-- Where the abbreviations begin, if their section is there.
unfoldable pub abbrevs_at : Bool → Option Cursor → Reader Cursor
abbrevs_at wide section = do
  at ← place
  offset ← field (offset_size wide)
  leads_into section at offset

-- The size of addresses is 8.
unfoldable pub address_size : Reader (Unit {0})
address_size = do
  at ← place
  size ← field 1
  refuse_if (not (size == 8)) at BadAddressSize

-- DWARF 4: the abbreviations, then the size of addresses.
unfoldable pub header_4 : Bool → Option Cursor → Reader (Option Header)
header_4 wide section = do
  start ← abbrevs_at wide section
  address_size
  gives (Some (record { version = 4; abbrevs = start }))

-- DWARF 5, section 7.5.1.1: DW_UT_compile and DW_UT_partial are read, and units of other types passed over.
abbrev pub is_read_type : ℕ → Bool
is_read_type type = type == 1 || type == 3

-- DWARF 5: behind the type the size of addresses, then the abbreviations.
unfoldable pub header_5_behind : Bool → Option Cursor → Reader (Option Header)
header_5_behind wide section = do
  address_size
  start ← abbrevs_at wide section
  gives (Some (record { version = 5; abbrevs = start }))

-- DWARF 5: first the type of the unit.
unfoldable pub header_5 : Bool → Option Cursor → Reader (Option Header)
header_5 wide section = do
  type ← field 1
  if is_read_type type then header_5_behind wide section else gives None

-- Versions 2 and 3 are passed over, and others refused.
abbrev pub other_version : ℕ → ℕ → Reader (Option Header)
other_version at version = do
  refuse_if (not (version == 2 || version == 3)) at BadVersion
  gives None

-- The header behind the version that was read at a place.
abbrev pub header_of_version : Bool → Option Cursor → ℕ → ℕ → Reader (Option Header)
header_of_version wide section at version =
    if version == 4 then header_4 wide section
    else (if version == 5 then header_5 wide section else other_version at version)

-- What a unit's header says behind its length, or none where the unit is passed over.
unfoldable pub header : Bool → Option Cursor → Reader (Option Header)
header wide section = do
  at ← place
  version ← field 2
  header_of_version wide section at version
