-- Conservation as a reader of counts says it: over the blocks and edges of a function, by their numbers.
use Rattle.std.specs.Prelude.{◌≡◌, ℕ, ◌+◌, ◌<◌, ◌≤◌, ◌==◌, Bool, true, false, List, ◌∷◌, length, slice_get, slice_index, Some, if◌then◌else◌}
use Rattle.block_model.specs.declared.parts.Block.{Block}
use Rattle.block_model.specs.declared.parts.Bound.{Bound}
use Rattle.block_model.specs.declared.parts.Edge.{Edge}
use Rattle.block_model.specs.declared.parts.Weight.{Weight}
use Rattle.flow_model.specs.Circulation.{IsAtMost}
use Rattle.flow_model.specs.Network.{Counts, some_sampled}

-- How often edges lead to a block: the sum of the counts of those that do.
abbrev pub came_to : List Edge → List ℕ → ℕ → ℕ
came_to (edge ∷ edges) (n ∷ counts) block = (if edge.to == block then n else 0) + came_to edges counts block
came_to _ _ block = 0

-- How often edges lead from a block.
abbrev pub went_from : List Edge → List ℕ → ℕ → ℕ
went_from (edge ∷ edges) (n ∷ counts) block = (if edge.from == block then n else 0) + went_from edges counts block
went_from _ _ block = 0

-- A part is all of the count, or at most all of it where there may be a rest.
abbrev pub MakesUp : Bool → ℕ → ℕ → Type 0
MakesUp true part n = part ≤ n
MakesUp false part n = part ≡ n

-- A count is within a bound.
abbrev pub IsWithinBound : Bound → ℕ → Type 0
IsWithinBound bound n = (bound.lower ≤ n) × IsAtMost bound.upper n

-- A block runs as often as edges lead to it, and block 0 at least so often, the rest being calls; as often as edges
-- lead from it, and an exit at least so often, the rest being returns; and so often as its bound allows.
pub record BalancesAt (edges : List Edge) (counts : Counts) (number : ℕ) (block : Block) : Type 0 where
  pub entered : MakesUp (number == 0) (came_to edges counts.edges number) (slice_index counts.blocks number)
  pub left : MakesUp block.exit (went_from edges counts.edges number) (slice_index counts.blocks number)
  pub within : IsWithinBound block.bound (slice_index counts.blocks number)

-- Each block and each edge has a count; blocks balance, edges are taken so often as their bounds allow, and where a
-- weight of a block is above 0 there is a call.
pub record IsBalanced (blocks : List Block) (edges : List Edge) (weights : List Weight) (counts : Counts) : Type 0 where
  pub block_counts : length counts.blocks ≡ length blocks
  pub edge_counts : length counts.edges ≡ length edges
  pub balance : (number : ℕ) (block : Block) → slice_get blocks number ≡ Some block
      → BalancesAt edges counts number block
  pub within : (number : ℕ) (edge : Edge) → slice_get edges number ≡ Some edge
      → IsWithinBound edge.bound (slice_index counts.edges number)
  pub called : some_sampled weights ≡ true → came_to edges counts.edges 0 < slice_index counts.blocks 0
