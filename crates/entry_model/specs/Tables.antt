-- Which bytes spell a table of abbreviations (DWARF 5, section 7.5.3). Each part is passed by a cursor, and the next
-- one begins where it stands then.
use Rattle.std.specs.Prelude.{◌≡◌, ◌≢◌, ◌≤◌, ℕ, ℤ, pos, Bool, true, false, List, [], ◌∷◌, length, ⊤}
use Rattle.std.specs.List.{AllByRecursion}
use Rattle.byte_view.specs.Cursor.{Cursor, Reads}
use Rattle.byte_view.specs.Reading.{SpellsField, SpellsUleb, SpellsSleb}
use Rattle.unit_model.specs.Abbrev.{Attr, Abbrev}
use Rattle.unit_model.specs.Table.{max_abbrevs}

-- Behind the form DW_FORM_implicit_const stands its value. Behind other forms stands none.
pub data SpellsImplicit : ℕ → Cursor → Cursor → ℤ → Type 0 where
  DW_FORM_implicit_const : (old new : Cursor) (z : ℤ) → Reads SpellsSleb old new z → SpellsImplicit 0x21 old new z
  other_form : (form : ℕ) (cur : Cursor) → form ≢ 0x21 → SpellsImplicit form cur cur (pos 0)

-- An attribute is spelled by its name, its form and the form's value.
pub record SpellsAttr (old new : Cursor) (attr : Attr) : Type 0 where
  pub behind_name : Cursor
  pub behind_form : Cursor
  pub name : Reads SpellsUleb old behind_name attr.name
  pub form : Reads SpellsUleb behind_name behind_form attr.form
  pub implicit : SpellsImplicit attr.form behind_form new attr.implicit

-- The name 0 and the form 0 end the attributes of an abbreviation.
pub data SpellsAttrs : Cursor → Cursor → List Attr → Type 0 where
  no_attr : (old behind new : Cursor) → Reads SpellsUleb old behind 0 → Reads SpellsUleb behind new 0
      → SpellsAttrs old new []
  attr_first : (old behind new : Cursor) (attr : Attr) (attrs : List Attr) → SpellsAttr old behind attr
      → (attr.name ≡ 0 → attr.form ≢ 0) → SpellsAttrs behind new attrs → SpellsAttrs old new (attr ∷ attrs)

-- DW_CHILDREN_no is 0, and DW_CHILDREN_yes 1.
abbrev pub children_code : Bool → ℕ
children_code true = 1
children_code false = 0

-- An abbreviation is spelled by its code, which is not 0, its tag, the byte that says whether children may follow,
-- and its attributes.
pub record SpellsAbbrev (old new : Cursor) (kind : Abbrev) : Type 0 where
  pub behind_code : Cursor
  pub behind_tag : Cursor
  pub behind_children : Cursor
  pub code : Reads SpellsUleb old behind_code kind.code
  pub some : kind.code ≢ 0
  pub tag : Reads SpellsUleb behind_code behind_tag kind.tag
  pub children : Reads (SpellsField 1) behind_tag behind_children (children_code kind.children)
  pub attrs : SpellsAttrs behind_children new kind.attrs

-- The code 0 ends a table.
pub data SpellsTable : Cursor → Cursor → List Abbrev → Type 0 where
  no_abbrev : (old new : Cursor) → Reads SpellsUleb old new 0 → SpellsTable old new []
  abbrev_first : (old behind new : Cursor) (kind : Abbrev) (kinds : List Abbrev) → SpellsAbbrev old behind kind
      → SpellsTable behind new kinds → SpellsTable old new (kind ∷ kinds)

-- No code stands twice.
abbrev pub AreDistinct : List Abbrev → Type 0
AreDistinct [] = ⊤
AreDistinct (kind ∷ kinds) = AllByRecursion (λ other. kind.code ≢ other.code) kinds × AreDistinct kinds

-- No code stands twice in a table, and it is not too long.
pub record IsTable (kinds : List Abbrev) : Type 0 where
  pub distinct : AreDistinct kinds
  pub few : length kinds ≤ max_abbrevs
