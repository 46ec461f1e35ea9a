-- What summing a file behind those before it gives.
use Rattle.std.specs.Prelude.{◌≡◌, ℕ, List, [], ◌∷◌, ◌++◌, Option, None, Some, IfSome, Result, Ok, Err}
use Rattle.profile_model.specs.Merge.{merged}
use Rattle.io_edge.specs.Inputs.{Store}
use Rattle.merge_maker.specs.Merge.{State, IsMergeOf}
use Rattle.command_model.specs.Files.{first_bad_of_part}
use Rattle.program_edge.specs.Halt.{IfAnswers}
use Rattle.program_edge.specs.Output.{EndsAt}
use Rattle.program_edge.specs.declared.halt.Halt.{Halt}

-- The k-th file, with its weight and its name, is there and good behind these texts, and was summed.
pub record IsAdded
    (store : Option Store) (k : ℕ) (part : ℕ × List ℕ) (texts : List (ℕ × List ℕ)) (after : State) : Type 0 where
  pub text : List ℕ
  pub there : IfSome store (λ files. files part.1 ≡ Some text)
  pub good : first_bad_of_part k part.0 (merged texts) text ≡ None
  pub summed : IsMergeOf after (texts ++ (part.0, text) ∷ [])

-- The same, or what the file ends the command with.
abbrev pub AddsFile :
    Option Store → ℕ → ℕ × List ℕ → List (ℕ × List ℕ) → Result (Unit {0}) Halt → State → Type 0
AddsFile store k part texts (Ok done) after = IsAdded store k part texts after
AddsFile store k part texts (Err halt) after =
    IfSome store (λ files. IfAnswers halt (EndsAt k (files part.1) (first_bad_of_part k part.0 (merged texts))))
