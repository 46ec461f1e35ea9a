-- Where an entry stands by the depths of the entries before it, and which function it is or is inlined into.
use Rattle.std.specs.Prelude.{ℕ, ◌+◌, Bool, nat_lt, ◌&&◌, if◌then◌else◌, List, [], ◌∷◌, ◌++◌, filter, find, length, Option, None, Some}
use Rattle.std.specs.List.{before_first, count_by, list_all}
use Rattle.std.specs.Option.{option_and_then}
use Rattle.std.specs.Result.{result_unwrap_or}
use Rattle.unit_model.specs.Entries.{Entry}
use Rattle.tree_model.specs.Pieces.{InUnit, live_ranges, spelled_ranges}
use Rattle.tree_model.specs.Members.{is_call, is_function}

-- An entry, and the entries of its unit before it, the last one first.
pub record Standing : Type 0 where
  pub entry : Entry
  pub earlier : List Entry

-- The entries that one at a depth stands below, the innermost first. Of the entries before it, the last one first, it
-- stands right below the first that is less deep.
abbrev pub way_up : ℕ → List Entry → List Standing
way_up depth [] = []
way_up depth (entry ∷ earlier) =
    (if nat_lt entry.depth depth then record { entry = entry; earlier = earlier } ∷ [] else [])
    ++ way_up (if nat_lt entry.depth depth then entry.depth else depth) earlier

-- The inlined subroutines on a way up, below the nearest subprogram on it.
abbrev pub calls_on : List Standing → List Standing
calls_on way = filter (λ on. is_call on.entry) (before_first (λ on. is_function on.entry) way)

-- The pieces of an entry whose ranges are not refused.
abbrev pub pieces_of : List ℕ → InUnit → Entry → List (ℕ × ℕ)
pieces_of file of entry = live_ranges file (result_unwrap_or (spelled_ranges of entry) [])

-- An entry has pieces.
abbrev pub has_pieces : List ℕ → InUnit → Entry → Bool
has_pieces file of entry = nat_lt 0 (length (pieces_of file of entry))

-- A subprogram with pieces is a function.
abbrev pub gives_function : List ℕ → InUnit → Entry → Bool
gives_function file of entry = is_function entry && has_pieces file of entry

-- How many functions there are with some entries of a unit, and so many in the units before it.
abbrev pub function_count : List ℕ → InUnit → ℕ → List Entry → ℕ
function_count file of before entries = before + count_by (gives_function file of) entries

-- The number of the function that a subprogram is: so many functions are before it.
abbrev pub function_number : List ℕ → InUnit → ℕ → Standing → Option ℕ
function_number file of before on =
    if has_pieces file of on.entry then Some (function_count file of before on.earlier) else None

-- The number of the function that a call with a way up is inlined into: that of the nearest subprogram on it, where
-- this and all inlined subroutines below it have pieces.
abbrev pub inlined_into : List ℕ → InUnit → ℕ → List Standing → Option ℕ
inlined_into file of before way =
    if list_all (λ on. has_pieces file of on.entry) (calls_on way)
    then option_and_then (function_number file of before) (find (λ on. is_function on.entry) way)
    else None
