-- Which line of a block text is its first bad place.
use Rattle.std.specs.Prelude.{ℕ, ◌+◌, ◌==◌, nat_lt, nat_le, Bool, false, not, ◌||◌, List, [], ◌∷◌, length, Option, None, Some, is_some}
use Rattle.std.specs.List.{list_any}
use Rattle.std.specs.Option.{option_map}
use Rattle.refusal.specs.declared.kind.Kind.{Kind}
use Rattle.refusal.specs.declared.kind.Kind.TheVariants.{BadLine, TooManyBlocks, BlockOrder, BlockEmpty, BlockOverlap, TooManyEdges, EdgeEnd, EdgeTwice, NoBlocks, NoEndLine, BadBound}
use Rattle.refusal.specs.declared.place.Place.{Place}
use Rattle.refusal.specs.Place.{first_bad, first_cause, fails_at}
use Rattle.text_model.specs.Lines.{lines_of}
use Rattle.block_model.specs.declared.parts.Block.{Block}
use Rattle.block_model.specs.declared.parts.Bound.{Bound}
use Rattle.block_model.specs.Function.{Function, overlap, joins}
use Rattle.block_model.specs.Limits.{max_blocks, max_edges}
use Rattle.block_model.specs.Line.{Line, line_of}
use Rattle.block_model.specs.Line.{passed, begins, tells_block, tells_edge, ends}
use Rattle.block_model.specs.Text.{open_behind_line}

-- The number is above a bound, if there is one.
abbrev pub exceeds : ℕ → Option ℕ → Bool
exceeds n None = false
exceeds n (Some upper) = nat_lt upper n

-- The lower bound is above the upper one.
abbrev pub is_bad_bound : Bound → Bool
is_bad_bound bound = exceeds bound.lower bound.upper

-- Why a block is refused behind those of an open function. A block stands before all edges.
unfoldable pub cause_of_block : Function → ℕ → Block → Option Kind
cause_of_block fun number block = first_cause (
    (not (length fun.edges == 0), BadLine)
    ∷ (nat_le max_blocks (length fun.blocks), TooManyBlocks)
    ∷ (not (number == length fun.blocks), BlockOrder)
    ∷ (nat_le block.hi block.lo, BlockEmpty)
    ∷ (list_any (overlap block) fun.blocks, BlockOverlap)
    ∷ (is_bad_bound block.bound, BadBound)
    ∷ [])

-- Why an edge is refused behind the blocks and edges of an open function.
unfoldable pub cause_of_edge : Function → ℕ → ℕ → Bound → Option Kind
cause_of_edge fun from to bound = first_cause (
    (nat_le max_edges (length fun.edges), TooManyEdges)
    ∷ (nat_le (length fun.blocks) from || nat_le (length fun.blocks) to, EdgeEnd)
    ∷ (list_any (joins from to) fun.edges, EdgeTwice)
    ∷ (is_bad_bound bound, BadBound)
    ∷ [])

-- Why a line is refused where this function is open, or none.
unfoldable pub cause_of_line : Option Function → Option Line → Option Kind
cause_of_line opened None = Some BadLine
cause_of_line opened (Some passed) = None
cause_of_line None (Some (begins name)) = None
cause_of_line None (Some line) = Some BadLine
cause_of_line (Some fun) (Some (begins name)) = Some BadLine
cause_of_line (Some fun) (Some (tells_block number block)) = cause_of_block fun number block
cause_of_line (Some fun) (Some (tells_edge from to bound)) = cause_of_edge fun from to bound
cause_of_line (Some fun) (Some ends) = first_cause ((length fun.blocks == 0, NoBlocks) ∷ [])

-- The item of a line, or of the text's end.
abbrev pub item : ℕ → ℕ → Option Kind → Option Place
item file number cause = option_map (λ kind. record { file = file; at = number; kind = kind }) cause

-- Lines as items, in order, the first of them with this number and this function open before it; last the text's end,
-- which fails inside a function.
unfoldable pub items_from : ℕ → ℕ → Option Function → List (List ℕ) → List (Option Place)
items_from file number opened [] =
    fails_at (is_some opened) (record { file = file; at = number; kind = NoEndLine }) ∷ []
items_from file number opened (line ∷ lines) =
    item file number (cause_of_line opened (line_of line))
    ∷ items_from file (number + 1) (open_behind_line opened (line_of line)) lines

-- The first bad place of a block text, its size aside.
abbrev pub first_bad_of_text : ℕ → List ℕ → Option Place
first_bad_of_text file text = first_bad (items_from file 1 None (lines_of text))
