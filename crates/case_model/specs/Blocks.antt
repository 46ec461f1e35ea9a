-- A generated block text: the blocks and edges of each function.
use Rattle.std.specs.Prelude.{ℕ, ◌+◌, List, [], ◌++◌, codes}
use Rattle.text_model.specs.Numbers.{decimal_text, hex_text}
use Rattle.case_model.specs.Bytes.{for_each_function}
use Rattle.case_model.specs.Functions.{address, name}

-- The addresses of a block, behind a space each: its first, and the one behind its last.
unfoldable pub extent : ℕ → ℕ → List ℕ
extent from to = codes " " ++ hex_text from ++ codes " " ++ hex_text to

-- A block's line: its number, its addresses, and what else is said of it.
unfoldable pub block_line : ℕ → ℕ → ℕ → List ℕ → List ℕ
block_line number from to more =
    codes "block " ++ decimal_text number ++ extent from to ++ more ++ codes "\n"

-- An edge's line: from a block to a block.
unfoldable pub edge_line : ℕ → ℕ → List ℕ
edge_line from to = codes "edge " ++ decimal_text from ++ codes " " ++ decimal_text to ++ codes "\n"

-- Function k: four blocks, the last an exit, and the two ways from the first to the last.
unfoldable pub blocks_of : ℕ → List ℕ
blocks_of k =
    codes "func " ++ name k ++ codes "\n"
    ++ block_line 0 (address k) (address k + 0x8) []
    ++ block_line 1 (address k + 0x8) (address k + 0x10) []
    ++ block_line 2 (address k + 0x10) (address k + 0x20) []
    ++ block_line 3 (address k + 0x20) (address k + 0x40) (codes " exit")
    ++ edge_line 0 1 ++ edge_line 0 2 ++ edge_line 1 3 ++ edge_line 2 3
    ++ codes "end\n"

-- The block text of n functions.
unfoldable pub block_text : ℕ → List ℕ
block_text n = for_each_function blocks_of n
