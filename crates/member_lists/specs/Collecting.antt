-- The members of a file, collected entry by entry with the frames of the entries that the next may stand below.
use Rattle.std.specs.Prelude.{ℕ, ◌+◌, if◌then◌else◌, List, [], ◌∷◌, length, Result, Ok}
use Rattle.refusal.specs.declared.place.Place.{Place}
use Rattle.unit_model.specs.Entries.{Entry}
use Rattle.unit_model.specs.Units as model
use Rattle.tree_model.specs.Bases.{base_address}
use Rattle.tree_model.specs.Pieces.{InUnit, and_then, pieces}
use Rattle.tree_model.specs.Origin.{origin}
use Rattle.tree_model.specs.Members.{Told, call_told, function_told, is_call, is_function}
use Rattle.tree_model.specs.Tree.{Source, entries_of_unit, in_unit, not_too_deep}
use Rattle.member_lists.specs.declared.frame.EntryFrame.{EntryFrame}
use Rattle.member_lists.specs.Frames.{SoFar, all_members, behind_call, behind_function, behind_other, behind_unit, frame_above, left_out, nothing, one_deeper, outside}

-- A subprogram with these pieces: a function, where it has any.
abbrev pub function_with : Source → Entry → SoFar Told → List (ℕ × ℕ) → Result (SoFar Told) Place
function_with source entry so_far [] = Ok (behind_other entry.depth outside 0 so_far)
function_with source entry so_far (piece ∷ more) =
    and_then (origin source.sections.texts source.info entry)
    (λ origin. Ok (behind_function entry.depth (function_told entry (piece ∷ more) origin) (length (piece ∷ more))
    so_far))

unfoldable pub next_function : Source → InUnit → Entry → SoFar Told → Result (SoFar Told) Place
next_function source of entry so_far =
    and_then (pieces source.file of so_far.pieces entry) (function_with source entry so_far)

-- An inlined subroutine below a frame with these pieces: a call, where it has any.
abbrev pub call_with : Source → Entry → EntryFrame → SoFar Told → List (ℕ × ℕ) → Result (SoFar Told) Place
call_with source entry above so_far [] = Ok (behind_other entry.depth (left_out above) 0 so_far)
call_with source entry above so_far (piece ∷ more) =
    and_then (origin source.sections.texts source.info entry)
    (λ origin. Ok (behind_call entry.depth (one_deeper above) (call_told (above.calls + 1) entry (piece ∷ more) origin)
    (length (piece ∷ more)) so_far))

unfoldable pub next_call : Source → InUnit → Entry → EntryFrame → SoFar Told → Result (SoFar Told) Place
next_call source of entry above so_far =
    and_then (not_too_deep entry.at (above.calls + 1))
    (λ _. and_then (pieces source.file of so_far.pieces entry) (call_with source entry above so_far))

-- The next entry of a unit. One that is neither a subprogram nor an inlined subroutine is passed through.
unfoldable pub next_entry : Source → InUnit → Entry → SoFar Told → Result (SoFar Told) Place
next_entry source of entry so_far =
    if is_function entry then next_function source of entry so_far
    else (if is_call entry then next_call source of entry (frame_above entry.depth so_far.frames) so_far
    else Ok (behind_other entry.depth (frame_above entry.depth so_far.frames) 0 so_far))

-- Entries one behind the other.
abbrev pub next_entries : Source → InUnit → List Entry → SoFar Told → Result (SoFar Told) Place
next_entries source of [] so_far = Ok so_far
next_entries source of (entry ∷ rest) so_far =
    and_then (next_entry source of entry so_far) (next_entries source of rest)

-- The next unit: its base address, then its entries.
unfoldable pub next_unit : Source → ℕ → model.Unit → SoFar Told → Result (SoFar Told) Place
next_unit source number unit so_far =
    and_then (base_address source.sections.texts source.info.units number)
    (λ base. next_entries source (in_unit source number unit base)
    (entries_of_unit source.info.units.entries unit) (behind_unit so_far))

-- Units one behind the other, the first having a number.
abbrev pub next_units : Source → ℕ → List model.Unit → SoFar Told → Result (SoFar Told) Place
next_units source number [] so_far = Ok so_far
next_units source number (unit ∷ rest) so_far =
    and_then (next_unit source number unit so_far) (next_units source (number + 1) rest)

-- What all entries of a file come to, or the first bad place.
abbrev pub collected : Source → Result (List Told) Place
collected source =
    and_then (next_units source 0 source.info.units.units nothing) (λ so_far. Ok (all_members so_far))
