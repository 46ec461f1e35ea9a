-- What counting the branch text in a file gives.
use Rattle.std.specs.Prelude.{◌≡◌, ℕ, List, Option, None, Some, Result, Ok, Err}
use Rattle.text_model.specs.Lines.{lines_of}
use Rattle.sample_model.specs.Judging.{first_bad_of_text}
use Rattle.sample_model.specs.Moves.{LoadMap}
use Rattle.branch_counts.specs.Tally.{Tally, Tells}
use Rattle.program_edge.specs.Halt.{IfAnswers}
use Rattle.program_edge.specs.Output.{EndsAt}
use Rattle.program_edge.specs.declared.halt.Halt.{Halt}

-- The k-th file is a good branch text and its lines were counted.
pub record Counted (k : ℕ) (loading : Option LoadMap) (file : Option (List ℕ)) (counts : Tally) : Type 0 where
  pub text : List ℕ
  pub there : file ≡ Some text
  pub good : first_bad_of_text k text ≡ None
  pub tells : Tells loading (lines_of text) counts

-- The same, or what taking the file ends the command with.
abbrev pub CountsFile : ℕ → Option LoadMap → Option (List ℕ) → Result Tally Halt → Type 0
CountsFile k loading file (Ok counts) = Counted k loading file counts
CountsFile k loading file (Err halt) = IfAnswers halt (EndsAt k file (first_bad_of_text k))
