-- How the model sees what the code has read.
use Rattle.std.specs.Prelude.{◌≡◌, ◌≤◌, ◌+◌, ◌%◌, ◌^◌, ℕ, List, length, slice_get, Some, ⊤, Result, Ok, Err}
use Rattle.std.specs.List.{AllZip}
use Rattle.refusal.specs.declared.place.Place.{Place}
use Rattle.refusal.specs.declared.place.Stop.{Stop}
use Rattle.refusal.specs.declared.place.Stop.TheVariants.{Refused, NoMemory}
use Rattle.unit_model.specs.Constants.{DW_AT_GNU_discriminator, DW_AT_call_line}
use Rattle.unit_model.specs.Entries.{Entry}
use Rattle.chain_model.specs.declared.member.Member.{Member}
use Rattle.dwarf_ranges.specs.Meaning.{range_sections_of}
use Rattle.entry_facts.specs.declared.origin.Origin.{Origin}
use Rattle.entry_facts.specs.Meaning.{IsNumberOf}
use Rattle.entry_facts.specs.Memo.{Kept, Remembers}
use Rattle.tree_model.specs.Members.{Told, number_in}
use Rattle.member_lists.specs.Frames.{SoFar}
use Rattle.tree_model.specs.Tree as model
use Rattle.inline_tree.specs.declared.source.Source.{Source}

-- What the entries of a file are read by, as the model says it.
abbrev pub source_of : Source → model.Source
source_of source = record {
  file = source.elf.now;
  sections = range_sections_of source.parts.now;
  info = record { start = source.start; units = source.units.now };
}

-- The origins that are kept are those of the entries.
abbrev pub Knows : model.Source → List (List ℕ) → Kept → Type 0
Knows source names kept = Remembers source.sections.texts source.info names kept

-- A function with pieces, and a call with pieces at a depth, their names being numbers.
abbrev pub function_made : Entry → Origin → List (ℕ × ℕ) → Member
function_made entry origin pieces = record {
  depth = 0;
  unit = entry.unit;
  name = origin.name;
  start = origin.line;
  line = 0;
  disc = 0;
  pieces = pieces;
}

abbrev pub call_made : ℕ → Entry → Origin → List (ℕ × ℕ) → Member
call_made depth entry origin pieces = record {
  depth = depth;
  unit = entry.unit;
  name = origin.name;
  start = origin.line;
  line = number_in DW_AT_call_line entry;
  disc = number_in DW_AT_GNU_discriminator entry % 2 ^ 32;
  pieces = pieces;
}

-- A member is as it is told, its name being a number among the names.
pub record IsTold (names : List (List ℕ)) (told : Told) (member : Member) : Type 0 where
  pub depth_is : member.depth ≡ told.depth
  pub unit_is : member.unit ≡ told.unit
  pub name_is : IsNumberOf names told.name member.name
  pub start_is : member.start ≡ told.start
  pub line_is : member.line ≡ told.line
  pub disc_is : member.disc ≡ told.disc
  pub pieces_are : member.pieces ≡ told.pieces

abbrev pub AreTold : List (List ℕ) → List Told → List Member → Type 0
AreTold names told members = AllZip (IsTold names) told members

-- What was read so far is as it is told.
pub record IsSoFar (names : List (List ℕ)) (told : SoFar Told) (made : SoFar Member) : Type 0 where
  pub functions_are : AllZip (AreTold names) told.functions made.functions
  pub pieces_are : made.pieces ≡ told.pieces
  pub frames_are : made.frames ≡ told.frames

-- A call read on, or found the place that is told.
abbrev pub Advances : List (List ℕ) → Result (Unit {0}) Stop → SoFar Member → Result (SoFar Told) Place → Type 0
Advances names (Ok done) made read = (told : SoFar Told) × (read ≡ Ok told) × IsSoFar names told made
Advances names (Err (Refused place)) made read = read ≡ Err place
Advances names (Err NoMemory) made read = ⊤

-- A call counted one inlined subroutine more than there are above, unless these are too many.
abbrev pub CountsCalls : ℕ → ℕ → Result ℕ Place → Type 0
CountsCalls at above (Ok calls) = (calls ≡ above + 1) × (model.not_too_deep at calls ≡ Ok tt)
CountsCalls at above (Err place) = model.not_too_deep at (above + 1) ≡ Err place

-- At most so many names more are there, and those that were there have their numbers.
pub record Grows (count : ℕ) (old new : List (List ℕ)) : Type 0 where
  pub kept : (n : ℕ) (name : List ℕ) → slice_get old n ≡ Some name → slice_get new n ≡ Some name
  pub most : length new ≤ length old + count

-- The members are those that are told.
abbrev pub IsMadeOf : List (List ℕ) → Result (List Told) Place → List Member → Type 0
IsMadeOf names told made = (members : List Told) × (told ≡ Ok members) × AreTold names members made
