-- The places that lifting asks a binary for.
use Rattle.std.specs.Prelude.{ℕ, Bool, List}
use Rattle.block_model.specs.Function.{Function}
use Rattle.binary_places.specs.Binary.{IsPlaced}
use Rattle.binary_places.specs.declared.binary.Placed.{Placed}
use Rattle.output_model.specs.Program.{program_of}
use Rattle.profile_maker.specs.Asked.{program_asked}
use Rattle.asked_laws.specs.Alike.{AreAlikeInBlocks}

-- The places of a binary, of functions that were asked for, among which are those of all addresses in blocks.
pub record IsPlacedIn (bytes : List ℕ) (base : Bool) (funs : List Function) (placed : Placed) : Type 0 where
  pub marks : List Bool
  pub of_binary : IsPlaced bytes base marks placed
  pub alike : AreAlikeInBlocks (program_asked bytes base marks placed) (program_of bytes base) funs
