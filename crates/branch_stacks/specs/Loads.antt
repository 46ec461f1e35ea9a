-- What a reader knows of loads, and what counting a line adds where its addresses are moved.
use Rattle.std.specs.Prelude.{ℕ, List, [], ◌∷◌, map, Option, None, Some}
use Rattle.std.specs.Option.{option_map, option_map_or}
use Rattle.sample_model.specs.declared.load.Load.{Load}
use Rattle.sample_model.specs.Line.{branches_of_line}
use Rattle.sample_model.specs.Loads.{loads_of}
use Rattle.sample_model.specs.Moves.{LoadMap, counted_branch, moved_line, moved_ranges, range_from}
use Rattle.branch_stacks.specs.declared.loads.Loads.{Loads}
use Rattle.branch_counts.specs.Tally.{Tally, AddsSample, AddsStack}

-- What moves the addresses of a program.
abbrev pub map_in : Loads → LoadMap
map_in loads = record { name = loads.name.items; segments = loads.segments }

-- The same, where addresses are moved.
abbrev pub map_of : Option Loads → Option LoadMap
map_of loads = option_map map_in loads

-- The loads that were met so far.
abbrev pub met_of : Option Loads → List Load
met_of loads = option_map_or (λ l. l.met) loads []

-- The loads that lines tell of, which count where addresses are moved.
abbrev pub met_in : Option LoadMap → List (List ℕ) → List Load
met_in None lines = []
met_in (Some loading) lines = loads_of loading.name lines

-- The branches of a line were counted, and the ranges between them: as they stand, or moved by the loads that were met.
abbrev pub AddsLine : Option LoadMap → List Load → Tally → Tally → List ℕ → Type 0
AddsLine None met old new line = AddsStack old new (branches_of_line line)
AddsLine (Some loading) met old new line =
    AddsSample old new (map counted_branch (moved_line loading.segments met line))
    (moved_ranges (moved_line loading.segments met line))

-- The range to a newer branch, whose source is moved so, from one whose target is moved so: none where there is no
-- newer branch.
abbrev pub range_behind : Option (Option ℕ) → Option ℕ → List (ℕ × ℕ)
range_behind None target = []
range_behind (Some source) target = range_from target source ∷ []
