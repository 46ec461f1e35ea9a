-- What is kept of a header, and what the reading of a program gives.
use Rattle.std.specs.Prelude.{◌≡◌, ◌<◌, ◌+◌, ℕ, Bool, true, List, length, Result, Ok, Err}
use Rattle.line_program.specs.declared.fields.LineFields.{LineFields}
use Rattle.std.specs.Borrow.{Bor}
use Rattle.refusal.specs.declared.place.Place.{Place}
use Rattle.byte_view.specs.declared.Part.{Part}
use Rattle.byte_view.specs.Part.{bytes_of_part}
use Rattle.byte_view.specs.Cursor.{Cursor}
use Rattle.line_model.specs.Header.{Header}
use Rattle.line_model.specs.Fields.{Judged}

-- A header that is not refused: what is divided by is not 0, and each opcode below the base has a length.
pub record IsGood (line_range opcode_base : ℕ) (lengths : List ℕ) : Type 0 where
  pub divides : 0 < line_range
  pub sized : length lengths + 1 ≡ opcode_base

-- The cursor at the start of a piece.
abbrev pub cursor_of : Part → Cursor
cursor_of part = record { at = part.at; left = bytes_of_part part }

-- A field that is read and where the cursor then is, or the field's place.
abbrev pub GivesField : {X : Type 0} → Result X Place → Cursor → Judged (X × Cursor) → Type 0
GivesField (Ok x) new read = read ≡ Ok (x, new)
GivesField (Err place) new read = read ≡ Err place

-- Fields are passed, or the place of a bad one.
abbrev pub GivesPassed : Result (Unit {0}) Place → Cursor → Judged Cursor → Type 0
GivesPassed (Ok done) new read = read ≡ Ok new
GivesPassed (Err place) new read = read ≡ Err place

-- The bytes of a program and whether it is 64-bit DWARF, or the place of its length.
abbrev pub GivesUnit : Result (Bool × LineFields) Place → Judged (Bool × Cursor) → Type 0
GivesUnit (Ok (wide, fields)) read = read ≡ Ok (wide, fields.cur)
GivesUnit (Err place) read = read ≡ Err place

-- The lengths of the opcodes, or the place of the first that is not there.
abbrev pub GivesLengths : Result (Bor (List ℕ)) Place → Judged (List ℕ) → Type 0
GivesLengths (Ok lengths) read = read ≡ Ok lengths.now
GivesLengths (Err place) read = read ≡ Err place

-- The bytes of a program, or the place of its length.
abbrev pub GivesBody : Result LineFields Place → Judged (Bool × Cursor) → Type 0
GivesBody (Ok fields) read = read ≡ Ok (true, fields.cur)
GivesBody (Err place) read = read ≡ Err place

-- The header, or the place of its first bad field.
abbrev pub GivesHeader : Result Header Place → Judged Header → Type 0
GivesHeader (Ok header) read = read ≡ Ok header
GivesHeader (Err place) read = read ≡ Err place
