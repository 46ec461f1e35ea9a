-- A binary as a whole: what it is refused for first, and what it says.
use Rattle.std.specs.Prelude.{ℕ, ◌^◌, List, [], ◌∷◌, ◌++◌, map, codes, Option, None, Some, Result, Ok, Err}
use Rattle.std.specs.Option.{option_map, option_map_or}
use Rattle.std.specs.Result.{result_err}
use Rattle.refusal.specs.declared.place.Place.{Place}
use Rattle.refusal.specs.Place.{first_bad, size_item}
use Rattle.byte_view.specs.Cursor.{Cursor}
use Rattle.placed_view.specs.Reader.{Read, refused_at}
use Rattle.elf_model.specs.Items.{items, lookup_item}
use Rattle.unit_model.specs.Units.{Units, no_units, units}
use Rattle.line_model.specs.declared.row.Row.{Row}
use Rattle.line_model.specs.Rows.{Sequence, live_sequences}
use Rattle.tree_model.specs.Members.{Told}
use Rattle.tree_model.specs.Tree.{Source, members}
use Rattle.binary_model.specs.Sections.{looked_up, range_sections, section_at}
use Rattle.binary_model.specs.LinePrograms.{rows_of_units}

-- The most bytes of a binary.
abbrev pub max_binary_bytes : ℕ
max_binary_bytes = 2 ^ 30

-- The units of `.debug_info`, by the abbreviations in `.debug_abbrev`. Without `.debug_info` there are none.
abbrev pub units_by : Option Cursor → Option Cursor → Read Units
units_by None abbrevs = Ok (no_units, record { at = 0; left = [] })
units_by (Some info) abbrevs = units abbrevs info

-- The units of a binary, or its first bad place among them.
unfoldable pub units_read : List ℕ → Read Units
units_read file = units_by (section_at file (codes ".debug_info")) (section_at file (codes ".debug_abbrev"))

-- What was read, where it is good. Of a binary that is refused nothing more is asked.
abbrev pub units_or_none : Read Units → Units
units_or_none (Ok (told, cur)) = told
units_or_none (Err place) = no_units

-- A list that was read, where it is good.
abbrev pub list_or_none : {X : Type 0} → Result (List X) Place → List X
list_or_none (Ok list) = list
list_or_none (Err place) = []

-- The units of a good binary.
abbrev pub units_in : List ℕ → Units
units_in file = units_or_none (units_read file)

-- The rows of each unit's line program.
unfoldable pub rows_read : List ℕ → Result (List (Option (List Row))) Place
rows_read file = rows_of_units (section_at file (codes ".debug_line")) (units_in file)

-- What the entries are read by.
abbrev pub source_of : List ℕ → Source
source_of file = record {
  file = file;
  sections = range_sections file;
  info = record {
    start = option_map_or (λ cur. cur.at) (section_at file (codes ".debug_info")) 0;
    units = units_in file;
  };
}

-- The functions and the calls inlined into them.
unfoldable pub members_read : List ℕ → Result (List Told) Place
members_read file = members (source_of file)

-- What is judged behind the size, in order: the headers, the sections that are looked up, the units with their entries,
-- the line programs, and the pieces and names of functions and inlined calls.
abbrev pub items_behind_size : List ℕ → List (Option Place)
items_behind_size file =
    items file
    ++ map (lookup_item file) looked_up
    ++ refused_at (units_read file) ∷ result_err (rows_read file) ∷ result_err (members_read file) ∷ []

-- The items of a binary, which is file 1 of each command that reads one.
abbrev pub binary_items : List ℕ → List (Option Place)
binary_items file = size_item 1 max_binary_bytes file ∷ items_behind_size file

-- The first bad place of a binary.
unfoldable pub first_bad_of_binary : List ℕ → Option Place
first_bad_of_binary file = first_bad (binary_items file)

-- The members of a good binary.
abbrev pub members_in : List ℕ → List Told
members_in file = list_or_none (members_read file)

-- The live sequences of each unit of a good binary that has a line program.
abbrev pub tables_in : List ℕ → List (Option (List Sequence))
tables_in file = map (option_map (live_sequences file)) (list_or_none (rows_read file))
