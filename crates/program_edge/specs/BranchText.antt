-- What reading a branch text to its end gives. A fault or want of memory may come in place of an answer.
use Rattle.std.specs.Prelude.{◌≡◌, ℕ, ◌≤◌, List, length, Option, None, Result, Ok, Err}
use Rattle.text_model.specs.Lines.{lines_of}
use Rattle.sample_model.specs.Judging.{first_bad_of_text}
use Rattle.sample_model.specs.Limits.{max_text_bytes}
use Rattle.sample_model.specs.Moves.{LoadMap}
use Rattle.branch_stacks.specs.Reader.{Reading, HasRead}
use Rattle.branch_counts.specs.Tally.{Tally, Tells}
use Rattle.program_edge.specs.Halt.{IfAnswers}
use Rattle.program_edge.specs.Output.{EndsJudged}
use Rattle.program_edge.specs.declared.halt.Halt.{Halt}

-- The text is good and its lines were counted, or what ends the command is that it is bad.
abbrev pub JudgesText : Option LoadMap → ℕ → List ℕ → Result (Unit {0}) Halt → Tally → Type 0
JudgesText loading k text (Ok done) tally = (first_bad_of_text k text ≡ None) × Tells loading (lines_of text) tally
JudgesText loading k text (Err halt) tally = IfAnswers halt (EndsJudged k (first_bad_of_text k text))

-- The text was read to its end, where only an open rest is left to judge, or what ends the command is that it is bad.
abbrev pub FeedsText : Option LoadMap → ℕ → List ℕ → Result (Unit {0}) Halt → Reading → Tally → Type 0
FeedsText loading k text (Ok done) reader tally =
    HasRead text reader tally × (reader.file ≡ k) × (reader.loading ≡ loading) × (length text ≤ max_text_bytes)
FeedsText loading k text (Err halt) reader tally = IfAnswers halt (EndsJudged k (first_bad_of_text k text))
