-- What the functions of a block text without a bad line keep.
use Rattle.std.specs.Prelude.{◌≡◌, ◌<◌, ◌≤◌, ℕ, List, None}
use Rattle.std.specs.List.{All, AllPairs}
use Rattle.block_model.specs.declared.parts.Block.{Block}
use Rattle.block_model.specs.declared.parts.Edge.{Edge}
use Rattle.block_model.specs.Judging.{first_bad_of_text}
use Rattle.block_model.specs.Text.{functions_of}
use Rattle.flow_model.specs.Sound.{IsSound}

-- Each function of a text in which no line is bad keeps those rules on which its network rests.
abbrev pub GoodTextsAreSound : Type 0
GoodTextsAreSound =
    (file : ℕ) (text : List ℕ) → first_bad_of_text file text ≡ None
    → All (λ fun. IsSound fun.blocks fun.edges) (functions_of text)

-- No address is in both of two blocks.
abbrev pub ShareNone : Block → Block → Type 0
ShareNone one other = (a : ℕ) → one.lo ≤ a → a < one.hi → other.lo ≤ a → a < other.hi → ⊥

-- Two edges do not both lead from one block to another.
abbrev pub LeadApart : Edge → Edge → Type 0
LeadApart one other = one.from ≡ other.from → one.to ≡ other.to → ⊥

-- Each block holds an address, no two hold a common one, and no two edges lead from one block to another.
pub record AreApart (blocks : List Block) (edges : List Edge) : Type 0 where
  pub filled : All (λ block. block.lo < block.hi) blocks
  pub blocks_apart : AllPairs ShareNone blocks
  pub edges_apart : AllPairs LeadApart edges

-- The blocks of each function of such a text are apart, and so are its edges.
abbrev pub GoodTextsAreApart : Type 0
GoodTextsAreApart =
    (file : ℕ) (text : List ℕ) → first_bad_of_text file text ≡ None
    → All (λ fun. AreApart fun.blocks fun.edges) (functions_of text)
