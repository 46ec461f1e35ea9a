-- The samples of a program whose addresses are moved from where it ran to where its file says that it stands. An
-- address that ran elsewhere is foreign.
use Rattle.std.specs.Prelude.{ℕ, ◌+◌, ◌-◌, Bool, ◌&&◌, nat_le, nat_lt, List, [], ◌∷◌, ◌++◌, map, drop, find, reverse, Option, None, Some, if◌then◌else◌}
use Rattle.std.specs.List.{flat_map, zip}
use Rattle.load_model.specs.declared.load_segment.LoadSegment.{LoadSegment}
use Rattle.load_model.specs.Segments.{address_of_offset}
use Rattle.sample_model.specs.declared.load.Load.{Load}
use Rattle.sample_model.specs.Line.{◌>>=◌, branches_of_line}
use Rattle.sample_model.specs.Loads.{loads_of}
use Rattle.sample_model.specs.Samples.{branches_of_lines, ranges_of_lines}

-- What is needed to move the addresses of a program: its file's name in load lines, and its segments of code.
pub record LoadMap : Type 0 where
  pub name : List ℕ
  pub segments : List LoadSegment

-- An address is one of those that were loaded.
abbrev pub holds : ℕ → Load → Bool
holds address load = nat_le load.start address && nat_lt address (load.start + load.len)

-- The last of some loads that holds an address.
abbrev pub last_load : List Load → ℕ → Option Load
last_load loads address = find (holds address) (reverse loads)

-- The address of the program that ran at an address of a load of its file, if a segment has it.
abbrev pub address_in_load : List LoadSegment → ℕ → Load → Option ℕ
address_in_load segments address load =
    if load.is_wanted then address_of_offset segments (address - load.start + load.offset) else None

-- The move of an address after these loads, which a foreign address has not.
unfoldable pub move_of : List LoadSegment → List Load → ℕ → Option ℕ
move_of segments loads address = last_load loads address >>= address_in_load segments address

-- A branch whose two addresses are moved, as far as they are not foreign.
abbrev pub MovedBranch : Type 0
MovedBranch = Option ℕ × Option ℕ

-- A branch with both its addresses moved.
abbrev pub moved_branch : List LoadSegment → List Load → ℕ × ℕ → MovedBranch
moved_branch segments loads branch = (move_of segments loads branch.0, move_of segments loads branch.1)

-- The moved branches of a line after these loads, newest first.
abbrev pub moved_line : List LoadSegment → List Load → List ℕ → List MovedBranch
moved_line segments loads line = map (moved_branch segments loads) (branches_of_line line)

-- A foreign address counts as 0, where no code stands.
abbrev pub or_0 : Option ℕ → ℕ
or_0 None = 0
or_0 (Some address) = address

-- What a moved branch counts as.
abbrev pub counted_branch : MovedBranch → ℕ × ℕ
counted_branch branch = (or_0 branch.0, or_0 branch.1)

-- A range counts as one from 0 to 0 where one of its ends is foreign.
abbrev pub range_from : Option ℕ → Option ℕ → ℕ × ℕ
range_from None hi = (0, 0)
range_from (Some lo) None = (0, 0)
range_from (Some lo) (Some hi) = (lo, hi)

-- The range between two neighbours of a stack, from the older one's target to the newer one's source.
abbrev pub moved_range_between : MovedBranch × MovedBranch → ℕ × ℕ
moved_range_between (newer, older) = range_from older.1 newer.0

-- The sampled ranges of one sample.
unfoldable pub moved_ranges : List MovedBranch → List (ℕ × ℕ)
moved_ranges branches = map moved_range_between (zip branches (drop 1 branches))

-- The moved branches of each line: the loads of the lines before it move them, behind those of before.
abbrev pub moved_lines : LoadMap → List Load → List (List ℕ) → List (List MovedBranch)
moved_lines loading before [] = []
moved_lines loading before (line ∷ lines) =
    moved_line loading.segments before line
    ∷ moved_lines loading (before ++ loads_of loading.name (line ∷ [])) lines

-- All branches of these lines: as they stand, or moved by the loads among the lines.
abbrev pub branches_by : Option LoadMap → List (List ℕ) → List (ℕ × ℕ)
branches_by None lines = branches_of_lines lines
branches_by (Some loading) lines = flat_map (map counted_branch) (moved_lines loading [] lines)

-- All sampled ranges of these lines, likewise.
abbrev pub ranges_by : Option LoadMap → List (List ℕ) → List (ℕ × ℕ)
ranges_by None lines = ranges_of_lines lines
ranges_by (Some loading) lines = flat_map moved_ranges (moved_lines loading [] lines)
