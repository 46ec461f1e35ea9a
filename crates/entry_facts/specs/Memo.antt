-- Origins that are kept for entries that others lead to.
use Rattle.std.specs.Prelude.{◌≡◌, ℕ, List, [], None, Some, Ok}
use Rattle.range_model.specs.Texts.{Sections}
use Rattle.unit_model.specs.Constants.{DW_AT_MIPS_linkage_name, DW_AT_decl_line, DW_AT_linkage_name, DW_AT_name}
use Rattle.unit_model.specs.Values.{Found}
use Rattle.unit_model.specs.Entries.{Entry}
use Rattle.tree_model.specs.Bases.{attribute}
use Rattle.tree_model.specs.Way.{Info, entry_beginning_at, reference_of, target_of, way_from}
use Rattle.tree_model.specs.Origin.{said_on}
use Rattle.entry_facts.specs.Kept.{kept_at}
use Rattle.entry_facts.specs.Meaning.{GivesOrigin}
use Rattle.entry_facts.specs.Texts.{Numbers, RemembersNames, no_numbers}
use Rattle.entry_facts.specs.declared.origin.Origin.{Origin}

-- An entry has no name and no line of its own.
pub record SaysNothing (entry : Entry) : Type 0 where
  pub linkage : attribute DW_AT_linkage_name entry.found ≡ None
  pub mips_linkage : attribute DW_AT_MIPS_linkage_name entry.found ≡ None
  pub name : attribute DW_AT_name entry.found ≡ None
  pub line : attribute DW_AT_decl_line entry.found ≡ None

-- Such an entry leads to an offset, so its origin is that of the entry there.
pub record LeadsOn (info : Info) (entry : Entry) (at : ℕ) : Type 0 where
  pub nothing : SaysNothing entry
  pub found : Found
  pub refers : reference_of entry ≡ Some found
  pub leads : target_of info entry.unit found.value ≡ Some at

-- The origin of the entry that begins at an offset, by a way that others can lead into: of 15 steps at most.
pub record IsKnown (sections : Sections) (info : Info) (names : List (List ℕ)) (at : ℕ) (origin : Origin) : Type 0 where
  pub entry : Entry
  pub begins : entry_beginning_at info.units.entries at ≡ Some entry
  pub told : (began : ℕ) → GivesOrigin names (Ok origin) (said_on sections info.units (way_from info began 15 entry))

-- What is kept: origins of entries by their offsets, and numbers of names by where their texts stand.
pub record Kept : Type 0 where
  pub origins : List (ℕ × Origin)
  pub texts : Numbers

-- Nothing is kept.
abbrev pub nothing_kept : Kept
nothing_kept = record { origins = []; texts = no_numbers }

-- What is kept is known.
pub record Remembers (sections : Sections) (info : Info) (names : List (List ℕ)) (kept : Kept) : Type 0 where
  pub origins : (at : ℕ) (origin : Origin) → kept_at kept.origins at ≡ Some origin
      → IsKnown sections info names at origin
  pub texts : RemembersNames sections info.units names kept.texts
