-- How the model sees a unit of the code, and an answer that may be refused.
use Rattle.std.specs.Prelude.{◌≡◌, Result, Ok, Err, ⊤}
use Rattle.refusal.specs.declared.place.Place.{Place}
use Rattle.refusal.specs.declared.place.Stop.{Stop}
use Rattle.refusal.specs.declared.place.Stop.TheVariants.{Refused, NoMemory}
use Rattle.dwarf_strings.specs.Meaning.{bases_of}
use Rattle.dwarf_ranges.specs.Meaning.{range_sections_of}
use Rattle.tree_model.specs.Pieces as model
use Rattle.entry_facts.specs.declared.in_unit.InUnit.{InUnit}

-- What the ranges of a unit's entries are read by, as the model says it.
abbrev pub in_unit : InUnit → model.InUnit
in_unit of = record {
  sections = range_sections_of of.parts;
  version = of.version;
  base = of.base;
  bases = bases_of of.bases;
}

-- A call gives what is told, or the place that stands in its way. `seen` is what clauses see of its value. Where
-- memory was refused nothing is said.
abbrev pub GivesUnlessNoMemory : {X Y : Type 0} → (X → Y) → Result X Stop → Result Y Place → Type 0
GivesUnlessNoMemory seen (Ok x) told = told ≡ Ok (seen x)
GivesUnlessNoMemory seen (Err (Refused place)) told = told ≡ Err place
GivesUnlessNoMemory seen (Err NoMemory) told = ⊤
