-- The functions that a block text spells.
use Rattle.std.specs.Prelude.{ℕ, List, [], ◌∷◌, ◌++◌, Option, None, Some}
use Rattle.std.specs.Option.{option_map}
use Rattle.text_model.specs.Lines.{lines_of}
use Rattle.block_model.specs.Function.{Function, named, with_block, with_edge}
use Rattle.block_model.specs.Line.{Line, line_of}
use Rattle.block_model.specs.Line.{passed, begins, tells_block, tells_edge, ends}

-- The function that is open behind a line, given the one that is open before it.
abbrev pub open_behind : Option Function → Line → Option Function
open_behind opened passed = opened
open_behind opened (begins name) = Some (named name)
open_behind opened (tells_block number block) = option_map (λ fun. with_block fun block) opened
open_behind opened (tells_edge from to bound) =
    option_map (λ fun. with_edge fun (record { from = from; to = to; bound = bound })) opened
open_behind opened ends = None

-- The function that a line closes.
abbrev pub closed_by : Option Function → Line → List Function
closed_by (Some fun) ends = fun ∷ []
closed_by _ _ = []

-- The function that is open behind a line as it was read; one that says nothing readable changes nothing.
abbrev pub open_behind_line : Option Function → Option Line → Option Function
open_behind_line opened None = opened
open_behind_line opened (Some line) = open_behind opened line

-- The function that a line as it was read closes.
abbrev pub closed_by_line : Option Function → Option Line → List Function
closed_by_line opened None = []
closed_by_line opened (Some line) = closed_by opened line

-- The functions that lines close, in order, where this one is open before them.
unfoldable pub functions_from : Option Function → List (List ℕ) → List Function
functions_from opened [] = []
functions_from opened (line ∷ lines) =
    closed_by_line opened (line_of line) ++ functions_from (open_behind_line opened (line_of line)) lines

-- The functions of a text.
abbrev pub functions_of : List ℕ → List Function
functions_of text = functions_from None (lines_of text)
