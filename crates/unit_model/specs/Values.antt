-- The values of an entry's attributes.
use Rattle.std.specs.Prelude.{ℕ, ◌-◌, ◌+◌, Bool, true, false, not, ◌||◌, ◌==◌, if◌then◌else◌, List, [], ◌∷◌, ◌++◌, length, Ok, Err}
use Rattle.std.specs.List.{list_any}
use Rattle.byte_view.specs.Cursor.{Cursor}
use Rattle.refusal.specs.Place.{in_binary}
use Rattle.refusal.specs.declared.kind.Kind.{Kind}
use Rattle.refusal.specs.declared.kind.Kind.TheVariants.{BadForm, IndirectTwice, BadClass}
use Rattle.value_model.specs.Value.{Value, Fault, bad_form, indirect_twice, view}
use Rattle.value_model.specs.Reading.{ValueReading, value_at}
use Rattle.placed_view.specs.Reader.{Read, Reader, ◌>>=◌, ◌>>◌, gives, place, refuse_if, kind_of}
use Rattle.unit_model.specs.Abbrev.{Attr}
use Rattle.unit_model.specs.Wanted.{Use, unused, accepts, wanted}

-- A wanted attribute of an entry: its name, where its value stands in the file, and the value.
pub record Found : Type 0 where
  pub name : ℕ
  pub at : ℕ
  pub value : Value

-- A fault of a value as the kind that it is told by.
abbrev pub kind_of_value : Fault → Kind
kind_of_value bad_form = BadForm
kind_of_value indirect_twice = IndirectTwice
kind_of_value (view fault) = kind_of fault

-- What is read of the bytes at a cursor, whose fault stands at the value's first byte.
abbrev pub placed_value : Cursor → ValueReading → Read Value
placed_value cur (Ok (value, left)) =
    Ok (value, record { at = cur.at + (length cur.left - length left); left = left })
placed_value cur (Err fault) = Err (in_binary cur.at (kind_of_value fault))

-- The value of an attribute, in a unit of 64-bit DWARF or not.
unfoldable pub value : Bool → Attr → Reader Value
value wide attr cur = placed_value cur (value_at attr.form attr.implicit wide cur.left)

-- An attribute is not wanted.
abbrev pub is_unused : Use → Bool
is_unused unused = true
is_unused purpose = false

-- Of an attribute that stands twice the first is taken, and of one that is not wanted none.
abbrev pub with_found : Use → Found → List Found → List Found
with_found purpose more found =
    if is_unused purpose || list_any (λ other. other.name == more.name) found then found else found ++ more ∷ []

-- The next value, behind those of the attributes before it, of which these were found.
unfoldable pub next_value : Bool → ℕ → Attr → List Found → Reader (List Found)
next_value wide tag attr found = do
  at ← place
  value ← value wide attr
  refuse_if (not (accepts (wanted tag attr.name) value)) at BadClass
  gives (with_found (wanted tag attr.name) (record { name = attr.name; at = at; value = value }) found)

-- The values of the attributes in their order, and what is found among them.
abbrev pub values_from : Bool → ℕ → List Attr → List Found → Reader (List Found)
values_from wide tag [] found = gives found
values_from wide tag (attr ∷ attrs) found = next_value wide tag attr found >>= values_from wide tag attrs

-- What is found among the values of an entry's attributes.
unfoldable pub values : Bool → ℕ → List Attr → Reader (List Found)
values wide tag attrs = values_from wide tag attrs []
