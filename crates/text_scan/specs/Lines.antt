-- The lines of a text with their numbers.
use Rattle.std.specs.Prelude.{ℕ, List}
use Rattle.std.specs.List.{enumerate_from}
use Rattle.text_model.specs.Lines.{lines_of}
use Rattle.text_scan.specs.declared.lines.Line.{Line}

-- The lines of a text, each behind its number, from 1.
abbrev pub numbered_lines : List ℕ → List (ℕ × List ℕ)
numbered_lines text = enumerate_from 1 (lines_of text)

-- A line that was read, as it stands in that list.
abbrev pub as_numbered : Line → ℕ × List ℕ
as_numbered line = (line.number, line.bytes.now)
