-- The line programs of the units, which are read in the order of the units (DWARF 5, section 6.2).
use Rattle.std.specs.Prelude.{ℕ, ◌+◌, nat_lt, if◌then◌else◌, List, [], ◌∷◌, ◌++◌, length, sum_by, Option, None, Some, Ok, Err}
use Rattle.std.specs.Option.{option_map_or}
use Rattle.refusal.specs.Place.{in_binary}
use Rattle.refusal.specs.declared.kind.Kind.TheVariants.{NoSection, PastSection}
use Rattle.byte_view.specs.Cursor.{Cursor}
use Rattle.placed_view.specs.Reader.{cursor_behind}
use Rattle.unit_model.specs.Constants.{DW_AT_stmt_list}
use Rattle.unit_model.specs.Values.{Found}
use Rattle.unit_model.specs.Units.{Unit, Units}
use Rattle.tree_model.specs.Bases.{root_attribute, section_place}
use Rattle.line_model.specs.declared.row.Row.{Row}
use Rattle.line_model.specs.Fields.{Judged, ◌>>=◌}
use Rattle.line_model.specs.Program.{rows_at}

-- The rows of the program at an offset of `.debug_line`, which a value at a place of the file names, where so many rows
-- stand before.
abbrev pub rows_from : ℕ → Option Cursor → ℕ → ℕ → Judged (List Row)
rows_from before None at offset = Err (in_binary at NoSection)
rows_from before (Some section) at offset =
    if nat_lt (length section.left) offset then Err (in_binary at PastSection)
    else rows_at before (cursor_behind offset section)

-- The rows that a value leads to, if it is of a class that leads anywhere.
abbrev pub rows_by : ℕ → Option Cursor → ℕ → Option ℕ → Judged (Option (List Row))
rows_by before section at None = Ok None
rows_by before section at (Some offset) = rows_from before section at offset >>= λ rows. Ok (Some rows)

-- The rows that an attribute of a unit's root leads to, and none without the attribute (DWARF 5, section 3.1.1).
abbrev pub rows_if : ℕ → Option Cursor → Option Found → Judged (Option (List Row))
rows_if before section None = Ok None
rows_if before section (Some found) = rows_by before section found.at (section_place found.value)

-- The rows of the unit of a number.
unfoldable pub rows_of_unit : Option Cursor → Units → ℕ → ℕ → Judged (Option (List Row))
rows_of_unit section told number before = rows_if before section (root_attribute told number DW_AT_stmt_list)

-- How many rows some units have together.
abbrev pub row_count : List (Option (List Row)) → ℕ
row_count units = sum_by (λ rows. option_map_or length rows 0) units

-- The units so far, and behind them the rows of the next, which has this number.
abbrev pub next_rows : Option Cursor → Units → ℕ → List (Option (List Row)) → Judged (List (Option (List Row)))
next_rows section told number so_far =
    rows_of_unit section told number (row_count so_far) >>= λ rows. Ok (so_far ++ rows ∷ [])

-- The same for all units from a number on.
abbrev pub rows_behind :
    Option Cursor → Units → ℕ → List Unit → List (Option (List Row)) → Judged (List (Option (List Row)))
rows_behind section told number [] so_far = Ok so_far
rows_behind section told number (unit ∷ rest) so_far =
    next_rows section told number so_far >>= rows_behind section told (number + 1) rest

-- The rows of each unit, or the first bad place of the programs.
unfoldable pub rows_of_units : Option Cursor → Units → Judged (List (Option (List Row)))
rows_of_units section told = rows_behind section told 0 told.units []
