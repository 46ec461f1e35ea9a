-- What follows from the definitions.
use Rattle.std.specs.Prelude.{ℕ, Bool, List}
use Rattle.context_map.specs.Maps.{entry_told, place_told}
use Rattle.span_cover.specs.Stretches.{function_at}
use Rattle.binary_places.specs.Binary.{IsPlaced}
use Rattle.binary_places.specs.declared.binary.Placed.{Placed}
use Rattle.report_model.specs.Report.{Sampled}
use Rattle.profile_laws.specs.Totals.{HasKeyWays}
use Rattle.output_model.specs.Program.{program_of}
use Rattle.output_model.specs.Sampled.{profile_of}
use Rattle.profile_writer.specs.Told.{TellsProgram}
use Rattle.profile_maker.specs.Asked.{program_asked}

-- The map of a binary shows the program in it, as far as it was asked for.
abbrev pub BinariesShowPrograms : Type 0
BinariesShowPrograms =
    (file : List ℕ) (base : Bool) (marks : List Bool) (placed : Placed) → IsPlaced file base marks placed
    → TellsProgram (program_asked file base marks placed) placed.names placed.keys placed.map.segments
    (place_told placed.map) (λ address. function_at placed.map.stretches address) (entry_told placed.map)

-- Of a binary each way with a count is that of a key, so totals add up.
abbrev pub KeyWaysAreTold : Type 0
KeyWaysAreTold =
    (file : List ℕ) (base : Bool) (sampled : Sampled) → HasKeyWays (profile_of (program_of file base) sampled)
