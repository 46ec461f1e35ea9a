-- What is kept of texts stays right, and a number that is kept is the one that is told.
use Rattle.std.proofs.Common.{◌≡◌, ℕ, Bool, true, false, List, Option, None, Some, Result, Ok, Err, cond, refl, sym, ap, subst, ◌∙◌, inl, inr}
use Rattle.std.specs.Prelude.{◌⊎◌, ◌==◌}
use Rattle.std.specs.Option.{option_and_then}
use Rattle.std.proofs.lemmas.Bool.{eqb-true}
use Rattle.refusal.specs.declared.kind.Kind.{Kind}
use Rattle.range_model.specs.Texts.{Sections, text_of}
use Rattle.unit_model.specs.Units.{Units}
use Rattle.key_types.specs.declared.ids.NameId.{NameId}
use Rattle.tree_model.specs.Bases.{at_value, bases_of_unit}
use Rattle.tree_model.specs.Origin.{Held, as_name, is_name, name_said}
use Rattle.entry_facts.specs.Kept.{AddsKnown, kept_at}
use Rattle.entry_facts.specs.Meaning.{Extends, IsNumberOf}
use Rattle.entry_facts.specs.Texts.{AddsNumber, GivesNumber, IsNumbered, Numbers, RemembersNames, SaysTextAt, if_of, number_at, text_at}
use Rattle.entry_facts.specs.declared.texts.EntryNumber.{EntryNumber}
use Rattle.entry_facts.specs.declared.texts.TextPlace.{TextPlace}
use Rattle.entry_facts.specs.declared.texts.TextPlace.TheVariants.{Str, LineStr, InEntry}

-- the name that a text is
abbrev name_of : List ℕ → Option (List ℕ)
name_of text = cond (is_name text) (Some text) None

-- ---- one number more

in_str : (at : ℕ) (number : Option NameId) (kept : Option NameId) (before : Type 0) (place : ℕ) → before ⊎ ((place ≡ at) × (kept ≡ number))
    → before ⊎ ((Str place ≡ Str at) × (kept ≡ number))
in_str at number kept before place (inl b) = inl b
in_str at number kept before place (inr same) = inr (ap Str same.0, same.1)

in_line_str : (at : ℕ) (number : Option NameId) (kept : Option NameId) (before : Type 0) (place : ℕ) → before ⊎ ((place ≡ at) × (kept ≡ number))
    → before ⊎ ((LineStr place ≡ LineStr at) × (kept ≡ number))
in_line_str at number kept before place (inl b) = inl b
in_line_str at number kept before place (inr same) = inr (ap LineStr same.0, same.1)

pub adds_str : (old new : Numbers) (at : ℕ) (number : Option NameId) → AddsKnown old.str new.str at number → new.line_str ≡ old.line_str → new.entries ≡ old.entries
    → AddsNumber old new (Str at) number
adds_str old new at number adds same same_entries (Str place) kept here = in_str at number kept _ place (adds place kept here)
adds_str old new at number adds same same_entries (LineStr place) kept here = inl (subst (λ (l : List (ℕ × Option NameId)). kept_at l place ≡ Some kept) same here)
adds_str old new at number adds same same_entries (InEntry place name) kept here =
    inl (subst (λ (l : List (ℕ × EntryNumber)). option_and_then (if_of name) (kept_at l place) ≡ Some kept) same_entries here)

pub adds_line_str : (old new : Numbers) (at : ℕ) (number : Option NameId) → AddsKnown old.line_str new.line_str at number → new.str ≡ old.str → new.entries ≡ old.entries
    → AddsNumber old new (LineStr at) number
adds_line_str old new at number adds same same_entries (LineStr place) kept here = in_line_str at number kept _ place (adds place kept here)
adds_line_str old new at number adds same same_entries (Str place) kept here = inl (subst (λ (l : List (ℕ × Option NameId)). kept_at l place ≡ Some kept) same here)
adds_line_str old new at number adds same same_entries (InEntry place name) kept here =
    inl (subst (λ (l : List (ℕ × EntryNumber)). option_and_then (if_of name) (kept_at l place) ≡ Some kept) same_entries here)

-- what is kept of an entry is the number of one of its attributes
one_attribute : (b : Bool) (name attribute : ℕ) (number kept : Option NameId) → (attribute == name) ≡ b → cond b (Some number) None ≡ Some kept → (attribute ≡ name) × (number ≡ kept)
one_attribute true name attribute number kept is here = (eqb-true attribute name is, cc)
one_attribute false name attribute number kept is here = absurd cc

in_entry : (at attribute : ℕ) (number : Option NameId) (old : List (ℕ × EntryNumber)) (place name : ℕ) (kept : Option NameId) (it : EntryNumber)
    → (kept_at old place ≡ Some it) ⊎ ((place ≡ at) × (it ≡ record { attribute = attribute; number = number })) → if_of name it ≡ Some kept
    → (option_and_then (if_of name) (kept_at old place) ≡ Some kept) ⊎ ((InEntry place name ≡ InEntry at attribute) × (kept ≡ number))
in_entry at attribute number old place name kept it (inl before) here = inl (ap (option_and_then (if_of name)) before ∙ here)
in_entry at attribute number old place name kept it (inr same) here =
    let is = one_attribute (it.attribute == name) name it.attribute it.number kept refl here in
    let attribute_is : it.attribute ≡ attribute = ap (λ (e : EntryNumber). e.attribute) same.1 in
    let number_is : it.number ≡ number = ap (λ (e : EntryNumber). e.number) same.1 in
    inr (ap (λ n. InEntry n name) same.0 ∙ ap (InEntry at) (sym is.0 ∙ attribute_is), sym is.1 ∙ number_is)

entry_there : (new : Option EntryNumber) (name : ℕ) (kept : Option NameId) → option_and_then (if_of name) new ≡ Some kept → (it : EntryNumber) × (new ≡ Some it) × (if_of name it ≡ Some kept)
entry_there None name kept here = absurd cc
entry_there (Some it) name kept here = (it, refl, here)

pub adds_entry : (old new : Numbers) (at attribute : ℕ) (number : Option NameId) → AddsKnown old.entries new.entries at (record { attribute = attribute; number = number })
    → new.str ≡ old.str → new.line_str ≡ old.line_str → AddsNumber old new (InEntry at attribute) number
adds_entry old new at attribute number adds same_str same (Str place) kept here = inl (subst (λ (l : List (ℕ × Option NameId)). kept_at l place ≡ Some kept) same_str here)
adds_entry old new at attribute number adds same_str same (LineStr place) kept here = inl (subst (λ (l : List (ℕ × Option NameId)). kept_at l place ≡ Some kept) same here)
adds_entry old new at attribute number adds same_str same (InEntry place name) kept here =
    let there = entry_there (kept_at new.entries place) name kept here in
    in_entry at attribute number old.entries place name kept there.0 (adds place there.0 there.1) there.2

-- ---- what is told

-- what an attribute says whose text is this
said : (sections : Sections) (units : Units) (held : Held) (place : TextPlace) (text : List ℕ) → SaysTextAt sections units held place → text_at sections units place ≡ Ok text
    → name_said sections units (Some held) ≡ Ok (name_of text)
said sections units held place text says stands = ap (λ (r : Result (List ℕ) Kind). as_name (at_value held.found.at r)) (says ∙ stands)

pub number_told : (sections : Sections) (units : Units) (names : List (List ℕ)) (held : Held) (place : TextPlace) (number : Option NameId)
    → SaysTextAt sections units held place → IsNumbered sections units names place number → GivesNumber names (Ok number) (name_said sections units (Some held))
number_told sections units names held place number says known = (name_of known.text, said sections units held place known.text says known.stands, known.number_is)

text_behind : (at : ℕ) (r : Result (List ℕ) Kind) (name : Option (List ℕ)) → as_name (at_value at r) ≡ Ok name → (text : List ℕ) × (r ≡ Ok text) × (name ≡ name_of text)
text_behind at (Ok text) name is = (text, refl, cc)
text_behind at (Err kind) name is = absurd cc

pub numbered : (sections : Sections) (units : Units) (names : List (List ℕ)) (held : Held) (place : TextPlace) (number : Option NameId)
    → SaysTextAt sections units held place → GivesNumber names (Ok number) (name_said sections units (Some held)) → IsNumbered sections units names place number
numbered sections units names held place number says gives =
    let behind = text_behind held.found.at (text_of sections (bases_of_unit units held.unit) held.found.value) gives.0 gives.1 in
    record { text = behind.0; stands = sym says ∙ behind.1; number_is = subst (λ (n : Option (List ℕ)). IsNumberOf names n number) behind.2 gives.2 }

-- ---- what is kept stays right

pub IsNumberOf-more : (old new : List (List ℕ)) (name : Option (List ℕ)) (number : Option NameId) → Extends old new → IsNumberOf old name number → IsNumberOf new name number
IsNumberOf-more old new name None more is = is
IsNumberOf-more old new None (Some id) more is = cc
IsNumberOf-more old new (Some name) (Some id) more is = (is.0, more.kept id.0 name is.1)

pub names_more : (sections : Sections) (units : Units) (old new : List (List ℕ)) (kept : Numbers) → Extends old new → RemembersNames sections units old kept → RemembersNames sections units new kept
names_more sections units old new kept more known = λ place number here.
    let is = known place number here in
    record { text = is.text; stands = is.stands; number_is = IsNumberOf-more old new (name_of is.text) number more is.number_is }

added : (sections : Sections) (units : Units) (names : List (List ℕ)) (before : Type 0) (place other : TextPlace) (number kept : Option NameId) → IsNumbered sections units names place number
    → (before → IsNumbered sections units names other kept) → before ⊎ ((other ≡ place) × (kept ≡ number)) → IsNumbered sections units names other kept
added sections units names before place other number kept here known (inl b) = known b
added sections units names before place other number kept here known (inr same) =
    subst (λ (p : TextPlace). IsNumbered sections units names p kept) (sym same.0) (subst (λ (n : Option NameId). IsNumbered sections units names place n) (sym same.1) here)

pub names_added : (sections : Sections) (units : Units) (names : List (List ℕ)) (old new : Numbers) (place : TextPlace) (number : Option NameId)
    → RemembersNames sections units names old → AddsNumber old new place number → IsNumbered sections units names place number → RemembersNames sections units names new
names_added sections units names old new place number known adds here = λ other kept is.
    added sections units names (number_at old other ≡ Some kept) place other number kept here (known other kept) (adds other kept is)

pub ruleset adds_lemmas = (adds_str, adds_line_str, adds_entry)
