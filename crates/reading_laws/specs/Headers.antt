-- Which bytes spell the length and the header of a unit (DWARF 5, sections 7.4 and 7.5.1; DWARF 4, section 7.5.1). Each
-- part is passed by a cursor, and the next one begins where it stands then.
use Rattle.std.specs.Prelude.{◌≡◌, ◌≢◌, ◌⊎◌, ◌<◌, ◌≤◌, ℕ, Bool, true, false, length, Option, None, Some, Ok}
use Rattle.byte_view.specs.Cursor.{Cursor, Reads}
use Rattle.byte_view.specs.Reading.{SpellsField}
use Rattle.placed_view.specs.Reader.{cursor_behind}
use Rattle.value_model.specs.Forms.{offset_size}
use Rattle.unit_model.specs.Header.{Header, header, unit_length}

-- A length of 32-bit DWARF has 4 bytes. One of 64-bit DWARF has 8, behind 4 bytes of ones.
pub data SpellsLength : Cursor → Cursor → Bool → ℕ → Type 0 where
  DWARF_32 : (old new : Cursor) (size : ℕ) → Reads (SpellsField 4) old new size → size < 0xfffffff0
      → SpellsLength old new false size
  DWARF_64 : (old behind new : Cursor) (size : ℕ) → Reads (SpellsField 4) old behind 0xffffffff
      → Reads (SpellsField 8) behind new size → SpellsLength old new true size

-- What is read as a length is spelled so, and as many bytes stand behind it.
abbrev pub ReadLengthsAreSpelled : Type 0
ReadLengthsAreSpelled =
    (old new : Cursor) (wide : Bool) (size : ℕ) → unit_length old ≡ Ok ((wide, size), new)
    → SpellsLength old new wide size × (size ≤ length new.left)

-- What spells a length is read as this length, where as many bytes stand behind it.
abbrev pub SpelledLengthsAreRead : Type 0
SpelledLengthsAreRead =
    (old new : Cursor) (wide : Bool) (size : ℕ) → SpellsLength old new wide size → size ≤ length new.left
    → unit_length old ≡ Ok ((wide, size), new)

-- An offset of the format's size, which leads to this place in the section of the abbreviations.
pub record SpellsAbbrevs (wide : Bool) (section : Option Cursor) (old new start : Cursor) : Type 0 where
  pub offset : ℕ
  pub field : Reads (SpellsField (offset_size wide)) old new offset
  pub abbrevs : Cursor
  pub there : section ≡ Some abbrevs
  pub inside : offset ≤ length abbrevs.left
  pub leads : start ≡ cursor_behind offset abbrevs

-- A header of version 4 has the abbreviations, and then the size of addresses, which is 8. One of version 5 has the
-- type of the unit, that size, and then the abbreviations, where the type is 1 or 3. Units of other types, and of
-- versions 2 and 3, are passed over.
pub data SpellsHeader (wide : Bool) (section : Option Cursor) : Cursor → Cursor → Option Header → Type 0 where
  version_4 : (old a b new start : Cursor) → Reads (SpellsField 2) old a 4 → SpellsAbbrevs wide section a b start
      → Reads (SpellsField 1) b new 8
      → SpellsHeader wide section old new (Some (record { version = 4; abbrevs = start }))
  version_5 : (old a b c new start : Cursor) (type : ℕ) → Reads (SpellsField 2) old a 5 → Reads (SpellsField 1) a b type
      → ((type ≡ 1) ⊎ (type ≡ 3)) → Reads (SpellsField 1) b c 8 → SpellsAbbrevs wide section c new start
      → SpellsHeader wide section old new (Some (record { version = 5; abbrevs = start }))
  other_type : (old a new : Cursor) (type : ℕ) → Reads (SpellsField 2) old a 5 → Reads (SpellsField 1) a new type
      → type ≢ 1 → type ≢ 3 → SpellsHeader wide section old new None
  older : (old new : Cursor) (version : ℕ) → Reads (SpellsField 2) old new version
      → ((version ≡ 2) ⊎ (version ≡ 3)) → SpellsHeader wide section old new None

-- What is read as a header is spelled so.
abbrev pub ReadHeadersAreSpelled : Type 0
ReadHeadersAreSpelled =
    (wide : Bool) (section : Option Cursor) (old new : Cursor) (head : Option Header)
    → header wide section old ≡ Ok (head, new) → SpellsHeader wide section old new head

-- What spells a header is read as this header.
abbrev pub SpelledHeadersAreRead : Type 0
SpelledHeadersAreRead =
    (wide : Bool) (section : Option Cursor) (old new : Cursor) (head : Option Header)
    → SpellsHeader wide section old new head → header wide section old ≡ Ok (head, new)
