-- A function of a block text: its name, its blocks and the edges between them.
use Rattle.std.specs.Prelude.{ℕ, nat_lt, nat_eq, Bool, ◌&&◌, List, [], ◌∷◌, ◌++◌, None}
use Rattle.block_model.specs.declared.parts.Block.{Block}
use Rattle.block_model.specs.declared.parts.Bound.{Bound}
use Rattle.block_model.specs.declared.parts.Edge.{Edge}

-- A function. Its blocks are numbered from 0, and block 0 is the entry.
pub record Function : Type 0 where
  pub name : List ℕ
  pub blocks : List Block
  pub edges : List Edge

-- A function of which nothing but the name is known yet.
abbrev pub named : List ℕ → Function
named name = record { name = name; blocks = []; edges = [] }

-- A function with one more block.
abbrev pub with_block : Function → Block → Function
with_block fun block = record fun { blocks = fun.blocks ++ block ∷ [] }

-- A function with one more edge.
abbrev pub with_edge : Function → Edge → Function
with_edge fun edge = record fun { edges = fun.edges ++ edge ∷ [] }

-- Whether two blocks hold a common address.
abbrev pub overlap : Block → Block → Bool
overlap block other = nat_lt block.lo other.hi && nat_lt other.lo block.hi

-- Whether an edge goes from this block to that one.
abbrev pub joins : ℕ → ℕ → Edge → Bool
joins from to edge = nat_eq edge.from from && nat_eq edge.to to

-- No bound but that a count is not below 0.
abbrev pub unbounded : Bound
unbounded = record { lower = 0; upper = None }
