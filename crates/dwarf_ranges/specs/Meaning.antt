-- How the model sees the entries of the code, and an answer of a reader.
use Rattle.std.specs.Prelude.{◌≡◌, ℕ, List, Option, None, Some, Result, Ok, Err}
use Rattle.std.specs.Option.{option_map, option_to_list}
use Rattle.byte_view.specs.declared.part.Part.{Part}
use Rattle.byte_view.specs.Part.{bytes_of_part}
use Rattle.dwarf_strings.specs.Meaning.{sections_of}
use Rattle.range_model.specs.Lists as lists
use Rattle.dwarf_ranges.specs.declared.list.RangeParts.{RangeParts}
use Rattle.dwarf_ranges.specs.declared.list.RangeList.{RangeList}
use Rattle.dwarf_ranges.specs.declared.step.ListStep.{ListStep}
use Rattle.refusal.specs.declared.kind.Kind.{Kind}
use Rattle.dwarf_forms.specs.Meaning as forms
use Rattle.range_model.specs.Entries as model
use Rattle.dwarf_ranges.specs.declared.entry.ListEntry.{ListEntry}
use Rattle.dwarf_ranges.specs.declared.entry.ListEntry.TheVariants.{SetsBase, Between, Along, FromBase}

-- An entry, with its addresses as the model names them.
abbrev pub entry_of : ListEntry → model.Entry
entry_of (SetsBase value) = model.sets_base (forms.meaning_of value)
entry_of (Between start end) = model.between (forms.meaning_of start) (forms.meaning_of end)
entry_of (Along start size) = model.along (forms.meaning_of start) size
entry_of (FromBase start end) = model.from_base start end

-- A call answered, and left these bytes, as a number is read.
abbrev pub GivesNumber : Result ℕ Kind → List ℕ → model.NumberReading → Type 0
GivesNumber (Ok n) left reading = reading ≡ Ok (n, left)
GivesNumber (Err kind) left reading = reading ≡ Err kind

-- A call answered, and left these bytes, as an entry is read.
abbrev pub GivesEntry : Result (Option ListEntry) Kind → List ℕ → model.EntryReading → Type 0
GivesEntry (Ok None) left reading = reading ≡ Ok None
GivesEntry (Ok (Some entry)) left reading = reading ≡ Ok (Some (entry_of entry, left))
GivesEntry (Err kind) left reading = reading ≡ Err kind

-- What an entry makes of a base is this.
pub record IsStep (resolve : lists.Resolves) (place base : ℕ) (entry : model.Entry) (step : ListStep) : Type 0 where
  pub at_place : step.at ≡ place
  pub good : lists.entry_cause resolve entry ≡ None
  pub base_is : step.base ≡ lists.base_behind resolve base entry
  pub ranges_are : option_to_list step.range ≡ lists.ranges_of_entry resolve base entry

-- A call answered what an entry makes of a base, or the first cause why it means nothing.
abbrev pub TakesStep : lists.Resolves → ℕ → ℕ → model.Entry → Result ListStep Kind → Type 0
TakesStep resolve place base entry (Ok step) = IsStep resolve place base entry step
TakesStep resolve place base entry (Err kind) = lists.entry_cause resolve entry ≡ Some kind

-- A section, by its place and its bytes.
abbrev pub piece_of : Option Part → Option lists.Piece
piece_of section = option_map (λ part. record { at = part.at; bytes = bytes_of_part part }) section

-- The sections, as the model names them.
abbrev pub range_sections_of : RangeParts → lists.RangeSections
range_sections_of parts = record {
  ranges = piece_of parts.ranges;
  rnglists = piece_of parts.rnglists;
  texts = sections_of parts.texts;
}

-- Where a list begins, by the cursor at its first entry.
abbrev pub start_of : RangeList → lists.Start
start_of list = record { pairs = list.pairs; at = list.cur.at; bytes = list.cur.left }

-- A call answered the list that is meant, or the cause why there is none.
abbrev pub LeadsTo : Result RangeList Kind → Result lists.Start Kind → Type 0
LeadsTo (Ok list) meant = meant ≡ Ok (start_of list)
LeadsTo (Err kind) meant = meant ≡ Err kind
