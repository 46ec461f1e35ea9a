-- Numbers of names that are kept by where their texts stand.
use Rattle.std.specs.Prelude.{◌≡◌, ◌==◌, ℕ, if◌then◌else◌, List, [], ◌⊎◌, Option, None, Some, Result, Ok, Err, ⊤}
use Rattle.std.specs.Option.{option_and_then, option_to_list}
use Rattle.refusal.specs.declared.kind.Kind.{Kind}
use Rattle.refusal.specs.declared.kind.Kind.TheVariants.{BadClass}
use Rattle.refusal.specs.declared.place.Place.{Place}
use Rattle.refusal.specs.declared.place.Stop.{Stop}
use Rattle.refusal.specs.declared.place.Stop.TheVariants.{Refused, NoMemory}
use Rattle.range_model.specs.Texts.{Sections, text_in, text_of}
use Rattle.unit_model.specs.Units.{Units}
use Rattle.key_types.specs.declared.ids.NameId.{NameId}
use Rattle.tree_model.specs.Bases.{bases_of_unit}
use Rattle.tree_model.specs.Origin.{Held, first_on, is_name}
use Rattle.tree_model.specs.Way.{entry_beginning_at}
use Rattle.entry_facts.specs.Kept.{kept_at}
use Rattle.entry_facts.specs.Meaning.{IsNumberOf}
use Rattle.entry_facts.specs.declared.texts.EntryNumber.{EntryNumber}
use Rattle.entry_facts.specs.declared.texts.TextPlace.{TextPlace}
use Rattle.entry_facts.specs.declared.texts.TextPlace.TheVariants.{Str, LineStr, InEntry}

-- The numbers that are kept, by the offsets of their texts in .debug_str and in .debug_line_str, and by the offsets at
-- which the entries begin that have their texts.
pub record Numbers : Type 0 where
  pub str : List (ℕ × Option NameId)
  pub line_str : List (ℕ × Option NameId)
  pub entries : List (ℕ × EntryNumber)

-- No number is kept.
abbrev pub no_numbers : Numbers
no_numbers = record { str = []; line_str = []; entries = [] }

-- The number of an attribute of a name, where it is this one's.
abbrev pub if_of : ℕ → EntryNumber → Option (Option NameId)
if_of attribute kept = if kept.attribute == attribute then Some kept.number else None

-- The number that is kept for the text at a place.
abbrev pub number_at : Numbers → TextPlace → Option (Option NameId)
number_at kept (Str at) = kept_at kept.str at
number_at kept (LineStr at) = kept_at kept.line_str at
number_at kept (InEntry at attribute) = option_and_then (if_of attribute) (kept_at kept.entries at)

-- What is kept behind a call was kept before it, or is this number at this place.
abbrev pub AddsNumber : Numbers → Numbers → TextPlace → Option NameId → Type 0
AddsNumber old new place number =
    (other : TextPlace) (kept : Option NameId) → number_at new other ≡ Some kept
    → (number_at old other ≡ Some kept) ⊎ ((other ≡ place) × (kept ≡ number))

-- The text that an attribute says, if there is one.
abbrev pub text_said : Sections → Units → Option Held → Result (List ℕ) Kind
text_said sections units None = Err BadClass
text_said sections units (Some held) = text_of sections (bases_of_unit units held.unit) held.found.value

-- The text at a place.
abbrev pub text_at : Sections → Units → TextPlace → Result (List ℕ) Kind
text_at sections units (Str at) = text_in sections.str at
text_at sections units (LineStr at) = text_in sections.line_str at
text_at sections units (InEntry at attribute) =
    text_said sections units (first_on attribute (option_to_list (entry_beginning_at units.entries at)))

-- The text that an attribute says is the one at a place.
abbrev pub SaysTextAt : Sections → Units → Held → TextPlace → Type 0
SaysTextAt sections units held place = text_said sections units (Some held) ≡ text_at sections units place

-- The number is that of the text at a place, where it is a name.
pub record IsNumbered (sections : Sections) (units : Units) (names : List (List ℕ)) (place : TextPlace)
    (number : Option NameId) : Type 0 where
  pub text : List ℕ
  pub stands : text_at sections units place ≡ Ok text
  pub number_is : IsNumberOf names (if is_name text then Some text else None) number

-- What is kept is so.
abbrev pub RemembersNames : Sections → Units → List (List ℕ) → Numbers → Type 0
RemembersNames sections units names kept =
    (place : TextPlace) (number : Option NameId) → number_at kept place ≡ Some number
    → IsNumbered sections units names place number

-- A call answered the number of a name, or the place at which the name is refused.
abbrev pub GivesNumber : List (List ℕ) → Result (Option NameId) Stop → Result (Option (List ℕ)) Place → Type 0
GivesNumber names (Ok number) told = (name : Option (List ℕ)) × (told ≡ Ok name) × IsNumberOf names name number
GivesNumber names (Err (Refused place)) told = told ≡ Err place
GivesNumber names (Err NoMemory) told = ⊤
