-- How one command answers what another one wrote.
use Rattle.std.specs.Prelude.{◌≡◌, ◌≤◌, ℕ, List, [], ◌∷◌, length, Some}
use Rattle.io_edge.specs.Inputs.{Store}
use Rattle.command_model.specs.Answer.{answer_of_command, writes}
use Rattle.command_model.specs.Command.{build, check}
use Rattle.command_model.specs.Files.{IsOutput, file_at, max_repair_bytes}
use Rattle.command_model.specs.Options.{Options}

-- A text that `build` may write, and that is no larger than a repair text can be, is accepted with the same block text.
abbrev pub BuiltIsAccepted : Type 0
BuiltIsAccepted =
    (files : Store) (options : Options) (bin perf cfg out : List ℕ) (contents : List (List ℕ)) (text : List ℕ)
    → answer_of_command files (build options bin perf cfg) ≡ writes (build options bin perf cfg) contents
    → IsOutput (build options bin perf cfg) contents text → length text ≤ max_repair_bytes
    → files out ≡ Some text
    → answer_of_command files (check cfg out) ≡ writes (check cfg out) (file_at 2 contents ∷ text ∷ [])
