-- What makes a block text bad.
use Rattle.std.specs.Prelude.{◌≡◌, ◌≢◌, ◌<◌, ◌≤◌, ℕ, List, length, slice_index_or, None}
use Rattle.block_model.specs.declared.parts.Block.{Block}
use Rattle.block_model.specs.declared.parts.Edge.{Edge}
use Rattle.block_model.specs.Function.{Function}
use Rattle.block_model.specs.Judging.{first_bad_of_text}
use Rattle.block_model.specs.Text.{functions_of}

-- The function at a place of those of a text.
abbrev pub function_at : List ℕ → ℕ → Function → Function
function_at text n fun = slice_index_or (functions_of text) n fun

-- An address is in a block.
abbrev pub IsIn : ℕ → Block → Type 0
IsIn a block = (block.lo ≤ a) × (a < block.hi)

-- A text is bad where an address is in two blocks of a function.
abbrev pub SharedPlacesAreBad : Type 0
SharedPlacesAreBad =
    (file : ℕ) (text : List ℕ) (n : ℕ) (fun : Function) (i j : ℕ) (block : Block) (a : ℕ)
    → n < length (functions_of text) → i < j → j < length (function_at text n fun).blocks
    → IsIn a (slice_index_or (function_at text n fun).blocks i block)
    → IsIn a (slice_index_or (function_at text n fun).blocks j block) → first_bad_of_text file text ≢ None

-- Two edges lead from one block to one.
abbrev pub LeadAlike : Edge → Edge → Type 0
LeadAlike one other = (one.from ≡ other.from) × (one.to ≡ other.to)

-- A text is bad where two edges of a function do.
abbrev pub SharedEdgesAreBad : Type 0
SharedEdgesAreBad =
    (file : ℕ) (text : List ℕ) (n : ℕ) (fun : Function) (i j : ℕ) (edge : Edge) → n < length (functions_of text)
    → i < j → j < length (function_at text n fun).edges
    → LeadAlike (slice_index_or (function_at text n fun).edges i edge)
    (slice_index_or (function_at text n fun).edges j edge) → first_bad_of_text file text ≢ None
