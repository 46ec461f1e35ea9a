-- Attributes in memory: a packed one for each, and the texts that stand in entries in a list of their own.
use Rattle.std.specs.Prelude.{◌≡◌, ℕ, ◌<◌, ◌++◌, List, [], map, length, get_or, Option, None, Some}
use Rattle.std.specs.List.{AllByRecursion}
use Rattle.std.specs.Borrow.{Bor}
use Rattle.value_model.specs.Value as model
use Rattle.unit_model.specs.Values.{Found}
use Rattle.dwarf_info.specs.declared.packed.ValueClass.{ValueClass}
use Rattle.dwarf_info.specs.declared.packed.ValueClass.TheVariants as classes
use Rattle.dwarf_info.specs.declared.packed.Packed.{Packed}

-- The texts of a list, each as its bytes.
abbrev pub texts_of : List (Bor (List ℕ)) → List (List ℕ)
texts_of texts = map (λ text. text.now) texts

-- The value of a class that a number tells. A text is not told by a number alone.
abbrev pub by_number : ValueClass → ℕ → Option model.Value
by_number classes.Addr n = Some (model.addr n)
by_number classes.Const n = Some (model.const n)
by_number classes.Text n = None
by_number classes.StrAt n = Some (model.str_at n)
by_number classes.LineStrAt n = Some (model.line_str_at n)
by_number classes.StrIndex n = Some (model.str_index n)
by_number classes.AddrIndex n = Some (model.addr_index n)
by_number classes.RefInfo n = Some (model.ref_info n)
by_number classes.Ref n = Some (model.ref n)
by_number classes.Sig n = Some (model.sig n)
by_number classes.Offset n = Some (model.offset n)
by_number classes.RangeIndex n = Some (model.range_index n)

-- A value, or else the text of a number among all.
abbrev pub or_text : List (List ℕ) → ℕ → Option model.Value → model.Value
or_text texts n (Some value) = value
or_text texts n None = model.text (get_or texts n [])

-- The value of a class and a number. The number of a text is its place among the texts.
abbrev pub value_of : List (List ℕ) → ValueClass → ℕ → model.Value
value_of texts class n = or_text texts n (by_number class n)

-- The attribute that a packed one stands for.
abbrev pub found_of : List (List ℕ) → Packed → Found
found_of texts packed = record {
  name = packed.name;
  at = packed.at;
  value = value_of texts packed.class packed.number;
}

-- The attributes that packed ones stand for.
abbrev pub all_found : List (List ℕ) → List Packed → List Found
all_found texts packed = map (found_of texts) packed

-- Where a class is told by no number, the number is the place of a text.
abbrev pub IsText : List (List ℕ) → ValueClass → ℕ → Type 0
IsText texts class n = by_number class n ≡ None → n < length texts

-- Each packed attribute that is a text is one of the texts.
abbrev pub AreHeld : List (List ℕ) → List Packed → Type 0
AreHeld texts packed = AllByRecursion (λ one. IsText texts one.class one.number) packed

-- Texts were added at most.
abbrev pub Extends : List (List ℕ) → List (List ℕ) → Type 0
Extends old new = (more : List (List ℕ)) × (new ≡ old ++ more)

-- A value is kept as this class and number.
pub record IsKeptAs (texts : List (List ℕ)) (value : model.Value) (class : ValueClass) (n : ℕ) : Type 0 where
  pub held : IsText texts class n
  pub is : value_of texts class n ≡ value

-- An attribute is packed as this one.
pub record IsPackedAs (texts : List (List ℕ)) (more : Found) (packed : Packed) : Type 0 where
  pub held : IsText texts packed.class packed.number
  pub is : found_of texts packed ≡ more
