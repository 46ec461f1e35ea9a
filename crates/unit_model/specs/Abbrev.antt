-- Abbreviations: what the entries of one kind have, and in which forms (DWARF 5, section 7.5.3).
use Rattle.std.specs.Prelude.{ℕ, ℤ, Bool, ◌==◌, List, Option, find, is_some}

-- An attribute and the form of its values. `implicit` is the value that the table has for DW_FORM_implicit_const, and 0
-- for every other form.
pub record Attr : Type 0 where
  pub name : ℕ
  pub form : ℕ
  pub implicit : ℤ

-- The entries of a code: their tag, whether children may follow, and their attributes in the order of the values.
pub record Abbrev : Type 0 where
  pub code : ℕ
  pub tag : ℕ
  pub children : Bool
  pub attrs : List Attr

-- The abbreviation of a code.
unfoldable pub find_code : List Abbrev → ℕ → Option Abbrev
find_code table code = find (λ a. a.code == code) table

-- A code stands in a table.
abbrev pub has_code : List Abbrev → ℕ → Bool
has_code table code = is_some (find_code table code)
