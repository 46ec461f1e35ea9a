-- Where no function has a mark, the program that is told is that of the binary.
use Rattle.std.proofs.Common.{◌≡◌, ℕ, Bool, List, [], subst}
use Rattle.std.specs.Prelude.{if◌then◌else◌}
use Rattle.binary_model.specs.Addresses.{entered_at, factor_of_address, function_of_address}
use Rattle.binary_model.specs.Places.{place_of_address}
use Rattle.binary_places.specs.Binary.{IsPlaced}
use Rattle.binary_places.specs.declared.binary.Placed.{Placed}
use Rattle.context_map.specs.Maps.{entry_told, place_told}
use Rattle.output_model.specs.Program.{Program, program_of}
use Rattle.profile_writer.specs.Told.{TellsProgram}
use Rattle.span_cover.proofs.AskedLemmas.{asks-all}
use Rattle.span_cover.specs.Stretches.{function_at}
use Rattle.profile_maker.proofs.ShownLemmas.{programs_shown}
use Rattle.profile_maker.specs.Asked.{lack_of, program_asked}

all_asked : (file : List ℕ) (base : Bool) (placed : Placed) → program_asked file base [] placed ≡ program_of file base
all_asked file base placed = λ i. record {
  place = λ address. if asks-all (function_of_address file address) i then place_of_address file base address
      else lack_of (place_told placed.map address);
  function = function_of_address file;
  entered = entered_at file;
  factor = factor_of_address file base;
}

pub program_shown : (file : List ℕ) (base : Bool) (placed : Placed) → IsPlaced file base [] placed
    → TellsProgram (program_of file base) placed.names placed.keys placed.map.segments
    (place_told placed.map) (λ address. function_at placed.map.stretches address) (entry_told placed.map)
program_shown file base placed is =
    subst (λ (program : Program). TellsProgram program placed.names placed.keys placed.map.segments
    (place_told placed.map) (λ address. function_at placed.map.stretches address) (entry_told placed.map))
    (all_asked file base placed) (programs_shown file base [] placed is)
