-- An abbreviation table as the list that its bytes spell (DWARF 5, section 7.5.3).
use Rattle.std.specs.Prelude.{ℕ, ◌^◌, ℤ, pos, Bool, ◌==◌, ◌&&◌, nat_lt, nat_le, if◌then◌else◌, List, [], ◌∷◌, ◌++◌, length, Option, None, Some}
use Rattle.refusal.specs.declared.kind.Kind.TheVariants.{BadChildren, CodeTwice, TooManyAbbrevs}
use Rattle.placed_view.specs.Reader.{Reader, ◌>>=◌, ◌>>◌, gives, place, refuse_if, uleb, sleb, field}
use Rattle.placed_view.specs.Steps.{to_the_end}
use Rattle.unit_model.specs.Abbrev.{Attr, Abbrev, has_code}

-- DWARF 5, section 7.5.6: behind DW_FORM_implicit_const stands its value.
unfoldable pub implicit : ℕ → Reader ℤ
implicit form = if form == 0x21 then sleb else gives (pos 0)

-- The next attribute behind others, or none: the name 0 and the form 0 end the list.
unfoldable pub next_attr : List Attr → Reader (Option (List Attr))
next_attr before = do
  name ← uleb
  form ← uleb
  value ← implicit form
  gives (
      if name == 0 && form == 0 then None
      else Some (before ++ record { name = name; form = form; implicit = value } ∷ [])
      )

-- The attributes of an abbreviation.
unfoldable pub attrs : Reader (List Attr)
attrs = to_the_end next_attr []

-- The most abbreviations of a table.
abbrev pub max_abbrevs : ℕ
max_abbrevs = 2 ^ 20

-- The byte that says whether children may follow: DW_CHILDREN_no is 0, and DW_CHILDREN_yes 1.
unfoldable pub children_byte : Reader Bool
children_byte = do
  at ← place
  byte ← field 1
  refuse_if (nat_lt 1 byte) at BadChildren
  gives (byte == 1)

-- The abbreviation of a code that was read.
unfoldable pub abbrev_of : ℕ → Reader Abbrev
abbrev_of code = do
  tag ← uleb
  children ← children_byte
  list ← attrs
  gives (record { code = code; tag = tag; children = children; attrs = list })

-- The next abbreviation behind others, where its code at a place is not the 0 that ends the table.
unfoldable pub abbrev_behind : List Abbrev → ℕ → ℕ → Reader (Option (List Abbrev))
abbrev_behind before at code = do
  refuse_if (has_code before code) at CodeTwice
  refuse_if (nat_le max_abbrevs (length before)) at TooManyAbbrevs
  next ← abbrev_of code
  gives (Some (before ++ next ∷ []))

-- The next abbreviation behind others, or none: the code 0 ends the table.
unfoldable pub next_abbrev : List Abbrev → Reader (Option (List Abbrev))
next_abbrev before = do
  at ← place
  code ← uleb
  if code == 0 then gives None else abbrev_behind before at code

-- The abbreviations of the table that stands at a cursor.
unfoldable pub table : Reader (List Abbrev)
table = to_the_end next_abbrev []
