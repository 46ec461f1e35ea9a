-- How the model sees the debugging information of the code, and the answers about a way.
use Rattle.std.specs.Prelude.{◌≡◌, ℕ, ◌+◌, ◌≤◌, List, length, slice_get, Option, None, Some, IsSome, Result, Ok, Err, ⊤}
use Rattle.std.specs.Option.{option_map}
use Rattle.refusal.specs.declared.place.Place.{Place}
use Rattle.refusal.specs.declared.place.Stop.{Stop}
use Rattle.refusal.specs.declared.place.Stop.TheVariants.{Refused, NoMemory}
use Rattle.dwarf_forms.specs.Meaning.{meaning_of}
use Rattle.unit_model.specs.Constants.{DW_AT_MIPS_linkage_name, DW_AT_decl_line, DW_AT_linkage_name, DW_AT_name}
use Rattle.unit_model.specs.Entries.{Entry}
use Rattle.key_types.specs.declared.ids.NameId.{NameId}
use Rattle.tree_model.specs.Way as model
use Rattle.tree_model.specs.Origin as told
use Rattle.entry_facts.specs.declared.info.Info.{Info}
use Rattle.entry_facts.specs.declared.findings.Held.{Held}
use Rattle.entry_facts.specs.declared.findings.Findings.{Findings}
use Rattle.entry_facts.specs.declared.origin.Origin.{Origin}

-- Where `.debug_info` begins, and what it says.
abbrev pub info_of : Info → model.Info
info_of info = record { start = info.start; units = info.units.now }

-- An attribute on a way, as the model says it.
abbrev pub held_of : Held → told.Held
held_of held = record {
  unit = held.unit;
  found = record { name = held.name; at = held.at; value = meaning_of held.value };
}

-- The findings are the first attributes on a way.
pub record AreFound (way : List Entry) (findings : Findings) : Type 0 where
  pub linkage : option_map held_of findings.linkage ≡ told.first_on DW_AT_linkage_name way
  pub mips_linkage : option_map held_of findings.mips_linkage ≡ told.first_on DW_AT_MIPS_linkage_name way
  pub name : option_map held_of findings.name ≡ told.first_on DW_AT_name way
  pub line : option_map held_of findings.line ≡ told.first_on DW_AT_decl_line way

-- A call answered what a way says, or the place at which the way is refused.
abbrev pub FindsOn : Result Findings Place → Result (List Entry) Place → Type 0
FindsOn (Ok findings) way = (entries : List Entry) × (way ≡ Ok entries) × AreFound entries findings
FindsOn (Err place) way = way ≡ Err place

-- The number is that of a name among the names, and there is none exactly without a name.
abbrev pub IsNumberOf : List (List ℕ) → Option (List ℕ) → Option NameId → Type 0
IsNumberOf names name None = name ≡ None
IsNumberOf names name (Some id) = IsSome name × (slice_get names id.0 ≡ name)

-- A call answered the number of a name.
abbrev pub Numbers : {E : Type 0} → List (List ℕ) → Option (List ℕ) → Result (Option NameId) E → Type 0
Numbers names name (Ok number) = IsNumberOf names name number
Numbers names name (Err fault) = ⊤

-- A call answered the start line of an entry and the number of its name, or the place at which either is refused.
abbrev pub GivesOrigin : List (List ℕ) → Result Origin Stop → Result told.Origin Place → Type 0
GivesOrigin names (Ok origin) told =
    (name : Option (List ℕ)) × (told ≡ Ok (record { name = name; line = origin.line }))
    × IsNumberOf names name origin.name
GivesOrigin names (Err (Refused place)) told = told ≡ Err place
GivesOrigin names (Err NoMemory) told = ⊤

-- One name more may be there, and those that were there have their numbers.
pub record Extends (old new : List (List ℕ)) : Type 0 where
  pub kept : (n : ℕ) (name : List ℕ) → slice_get old n ≡ Some name → slice_get new n ≡ Some name
  pub one_more : length new ≤ length old + 1
