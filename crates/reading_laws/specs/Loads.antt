-- Which load line moves an address, by where the lines stand.
use Rattle.std.specs.Prelude.{◌≡◌, ℕ, Bool, true, false, List, [], ◌∷◌, ◌++◌, take, slice_get, None, Some}
use Rattle.std.specs.List.{All}
use Rattle.std.specs.Option.{option_map, option_map_or}
use Rattle.sample_model.specs.declared.load.Load.{Load}
use Rattle.sample_model.specs.Loads.{load_of, loads_of}
use Rattle.sample_model.specs.Moves.{LoadMap, address_in_load, holds, move_of, moved_line, moved_lines}

-- Each line's branches are moved by the loads of the lines before it.
abbrev pub LinesAreMovedByThoseBefore : Type 0
LinesAreMovedByThoseBefore =
    (loading : LoadMap) (lines : List (List ℕ)) (i : ℕ)
    → slice_get (moved_lines loading [] lines) i
    ≡ option_map (moved_line loading.segments (loads_of loading.name (take i lines))) (slice_get lines i)

-- A line is a load line whose load holds an address.
abbrev pub loads : LoadMap → ℕ → List ℕ → Bool
loads loading address line = option_map_or (holds address) (load_of loading.name line) false

-- After some lines an address is moved by the last of them that loads it.
abbrev pub LastLoadMoves : Type 0
LastLoadMoves =
    (loading : LoadMap) (address : ℕ) (before behind : List (List ℕ)) (line : List ℕ) (load : Load)
    → load_of loading.name line ≡ Some load → holds address load ≡ true
    → All (λ later. loads loading address later ≡ false) behind
    → move_of loading.segments (loads_of loading.name (before ++ line ∷ behind)) address
    ≡ address_in_load loading.segments address load

-- After lines of which none loads it an address is foreign.
abbrev pub UnloadedIsForeign : Type 0
UnloadedIsForeign =
    (loading : LoadMap) (address : ℕ) (lines : List (List ℕ)) → All (λ line. loads loading address line ≡ false) lines
    → move_of loading.segments (loads_of loading.name lines) address ≡ None
