-- The program that is told of a binary where some functions were asked for.
use Rattle.std.specs.Prelude.{◌≡◌, ℕ, ◌≤◌, ◌<◌, Bool, true, List, Option, if◌then◌else◌}
use Rattle.std.specs.List.{All}
use Rattle.key_types.specs.declared.places.Where.{Where}
use Rattle.key_types.specs.declared.places.Where.TheVariants.{Outside, Nameless, NoLine, At}
use Rattle.sample_model.specs.declared.pair.Pair.{Pair}
use Rattle.block_model.specs.declared.parts.Block.{Block}
use Rattle.span_cover.specs.Asked.{asks}
use Rattle.cfg_text.specs.declared.fun.Fun.{Fun}
use Rattle.context_map.specs.Maps.{place_told}
use Rattle.binary_model.specs.Addresses.{entered_at, factor_of_address, function_of_address}
use Rattle.binary_model.specs.Places.{Place, outside, nameless, no_line, place_of_address}
use Rattle.binary_places.specs.Binary.{IsPlaced, asks_in}
use Rattle.binary_places.specs.declared.binary.Placed.{Placed}
use Rattle.output_model.specs.Program.{Program}

-- ---- what is told

-- What an answer without a key says of a place.
abbrev pub lack_of : Where → Place
lack_of Outside = outside
lack_of Nameless = nameless
lack_of NoLine = no_line
lack_of (At key) = outside

-- Of an address that was asked for its place, and of the others what their map answers, which is no key there.
abbrev pub program_asked : List ℕ → Bool → List Bool → Placed → Program
program_asked file base marks placed = record {
  place = λ address. if asks_in file marks address then place_of_address file base address
      else lack_of (place_told placed.map address);
  function = function_of_address file;
  entered = entered_at file;
  factor = factor_of_address file base;
}

-- ---- what is asked for

-- The place of an address is asked for.
abbrev pub AsksAt : (ℕ → Option ℕ) → List Bool → ℕ → Type 0
AsksAt function marks address = asks marks (function address) ≡ true

-- The places of both ends of a row are.
pub record AsksEnds (function : ℕ → Option ℕ) (marks : List Bool) (row : Pair) : Type 0 where
  pub from : AsksAt function marks row.from
  pub to : AsksAt function marks row.to

-- The places of all addresses of some blocks are.
abbrev pub AsksBlock : (ℕ → Option ℕ) → List Bool → Block → Type 0
AsksBlock function marks block = (address : ℕ) → block.lo ≤ address → address < block.hi → AsksAt function marks address

abbrev pub AsksBlocks : (ℕ → Option ℕ) → List Bool → List Block → Type 0
AsksBlocks function marks blocks = All (AsksBlock function marks) blocks

-- Places of a binary, of functions that were asked for: the ends of these branches and ranges are in them, and all
-- addresses of the blocks of these functions.
pub record ArePlacesFor
    (file : List ℕ) (base : Bool) (branches ranges : List Pair) (funs : List Fun) (placed : Placed) : Type 0 where
  pub marks : List Bool
  pub is_placed : IsPlaced file base marks placed
  pub of_branches : All (AsksEnds (function_of_address file) marks) branches
  pub of_ranges : All (AsksEnds (function_of_address file) marks) ranges
  pub in_blocks : All (λ (fun : Fun). AsksBlocks (function_of_address file) marks fun.blocks) funs
