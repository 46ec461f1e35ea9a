-- What a branch text tells of the run of a program: lists with repeats.
use Rattle.std.specs.Prelude.{ℕ, List, map, drop}
use Rattle.std.specs.List.{flat_map, zip}
use Rattle.text_model.specs.Lines.{lines_of}
use Rattle.sample_model.specs.Line.{branches_of_line}

-- Between two neighbouring branches of a stack the program is taken to have run straight on, from the older one's
-- target to the newer one's source. The newer one stands first.
abbrev pub range_between : (ℕ × ℕ) × (ℕ × ℕ) → ℕ × ℕ
range_between (newer, older) = (older.1, newer.0)

-- The sampled ranges of one sample: one for each two neighbours among its branches.
unfoldable pub ranges_between : List (ℕ × ℕ) → List (ℕ × ℕ)
ranges_between branches = map range_between (zip branches (drop 1 branches))

-- The sampled ranges of one line.
abbrev pub ranges_of_line : List ℕ → List (ℕ × ℕ)
ranges_of_line line = ranges_between (branches_of_line line)

-- All branches of these lines.
abbrev pub branches_of_lines : List (List ℕ) → List (ℕ × ℕ)
branches_of_lines lines = flat_map branches_of_line lines

-- All sampled ranges of these lines: none goes over the border of two lines.
abbrev pub ranges_of_lines : List (List ℕ) → List (ℕ × ℕ)
ranges_of_lines lines = flat_map ranges_of_line lines

-- All branches of a text.
abbrev pub branches_of : List ℕ → List (ℕ × ℕ)
branches_of text = branches_of_lines (lines_of text)

-- All sampled ranges of a text.
abbrev pub ranges_of : List ℕ → List (ℕ × ℕ)
ranges_of text = ranges_of_lines (lines_of text)
