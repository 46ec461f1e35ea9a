-- Readers: what a binary says from a cursor on, or the place at which it is refused.
use Rattle.std.specs.Prelude.{◌≡◌, ℕ, ◌+◌, ◌-◌, ℤ, Bool, length, take, drop, Option, None, Some, Result, Ok, Err, if◌then◌else◌}
use Rattle.byte_view.specs.declared.fault.ViewFault.{ViewFault}
use Rattle.byte_view.specs.declared.fault.ViewFault.TheVariants.{Short, LebTooLong, NoNul}
use Rattle.byte_view.specs.declared.part.Part.{Part}
use Rattle.byte_view.specs.Part.{bytes_of_part}
use Rattle.byte_view.specs.Cursor.{Cursor}
use Rattle.byte_view.specs.Reading.{Reading, field_at, uleb_at, sleb_at}
use Rattle.refusal.specs.declared.kind.Kind.{Kind}
use Rattle.refusal.specs.declared.kind.Kind.TheVariants as kinds
use Rattle.refusal.specs.declared.place.Place.{Place}
use Rattle.refusal.specs.Place.{in_binary}

-- A value and the cursor behind what spells it, or the place at which the binary is refused.
abbrev pub Read : Type 0 → Type 0
Read X = Result (X × Cursor) Place

-- What is read depends on where the cursor stands.
abbrev pub Reader : Type 0 → Type 0
Reader X = Cursor → Read X

-- A value that takes no bytes.
abbrev pub gives : {X : Type 0} → X → Reader X
gives x cur = Ok (x, cur)

-- What is read behind a value.
abbrev pub behind : {X Y : Type 0} → Read X → (X → Reader Y) → Read Y
behind (Ok (x, cur)) next = next x cur
behind (Err place) next = Err place

-- One reader, and behind it the next one, which knows the value.
infixl 10 ◌>>=◌
abbrev pub ◌>>=◌ : {X Y : Type 0} → Reader X → (X → Reader Y) → Reader Y
first >>= next = λ cur. behind (first cur) next

infixl 10 ◌>>◌
abbrev pub ◌>>◌ : {X Y : Type 0} → Reader X → Reader Y → Reader Y
first >> next = λ cur. behind (first cur) (λ _. next)

-- The place at which the cursor stands.
abbrev pub place : Reader ℕ
place cur = Ok (cur.at, cur)

-- How many bytes are left.
abbrev pub left : Reader ℕ
left cur = Ok (length cur.left, cur)

-- The binary is refused at a place.
abbrev pub refuse : {X : Type 0} → ℕ → Kind → Reader X
refuse at kind cur = Err (in_binary at kind)

-- Nothing is read, and the binary is refused at a place where a cause holds.
abbrev pub refuse_if : Bool → ℕ → Kind → Reader (Unit {0})
refuse_if cause at kind cur = if cause then Err (in_binary at kind) else Ok (tt, cur)

-- What was read, and whatever it is refused for is told as this at this place.
abbrev pub told_as : {X : Type 0} → ℕ → Kind → Read X → Read X
told_as at kind (Ok x) = Ok x
told_as at kind (Err other) = Err (in_binary at kind)

-- A reader, and whatever it is refused for is told as this at this place.
abbrev pub refused_as : {X : Type 0} → ℕ → Kind → Reader X → Reader X
refused_as at kind reader cur = told_as at kind (reader cur)

-- What a reader reads from another cursor on, with this one left where it stands.
abbrev pub elsewhere : {X : Type 0} → Cursor → Reader X → Reader X
elsewhere start reader cur = behind (reader start) (λ x _. Ok (x, cur))

-- The next bytes, as many as this, as a piece of their own.
abbrev pub piece_of : ℕ → Cursor → Cursor
piece_of size cur = record { at = cur.at; left = take size cur.left }

-- The cursor behind so many bytes.
abbrev pub cursor_behind : ℕ → Cursor → Cursor
cursor_behind size cur = record { at = cur.at + size; left = drop size cur.left }

-- What a reader reads in the next bytes, as many as this. They are passed whole.
abbrev pub within : {X : Type 0} → ℕ → Reader X → Reader X
within size reader cur = behind (reader (piece_of size cur)) (λ x _. Ok (x, cursor_behind size cur))

-- A cursor's fault as the kind that it is told by.
abbrev pub kind_of : ViewFault → Kind
kind_of Short = kinds.Short
kind_of LebTooLong = kinds.LebTooLong
kind_of NoNul = kinds.NoNul

-- What is read of the bytes at a cursor, whose fault stands at the cursor.
abbrev pub placed : {X : Type 0} → Cursor → Reading X → Read X
placed cur (Ok (x, left)) = Ok (x, record { at = cur.at + (length cur.left - length left); left = left })
placed cur (Err fault) = Err (in_binary cur.at (kind_of fault))

-- An unsigned LEB128 number.
unfoldable pub uleb : Reader ℕ
uleb cur = placed cur (uleb_at cur.left)

-- A signed LEB128 number.
unfoldable pub sleb : Reader ℤ
sleb cur = placed cur (sleb_at cur.left)

-- A field of so many bytes, the lowest first.
unfoldable pub field : ℕ → Reader ℕ
field size cur = placed cur (field_at size cur.left)

-- A call gives what is read, and left the cursor behind it. `seen` is what clauses see of its value.
abbrev pub Gives : {X Y : Type 0} → (X → Y) → Result X Place → Cursor → Read Y → Type 0
Gives seen (Ok x) new read = read ≡ Ok (seen x, new)
Gives seen (Err place) new read = read ≡ Err place

-- A cursor at the start of a piece.
abbrev pub start_of : Part → Cursor
start_of part = record { at = part.at; left = bytes_of_part part }

-- The place at which the binary is refused, where it is.
abbrev pub refused_at : {X : Type 0} → Read X → Option Place
refused_at (Ok (x, cur)) = None
refused_at (Err place) = Some place

-- A value is what was read.
abbrev pub IsRead : {X : Type 0} → Read X → X → Type 0
IsRead read x = (cur : Cursor) × (read ≡ Ok (x, cur))
