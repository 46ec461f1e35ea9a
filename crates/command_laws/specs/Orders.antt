-- That the order of files is no matter to `merge`.
use Rattle.std.specs.Prelude.{◌≡◌, ℕ, List}
use Rattle.std.specs.List.Sorted.{IsPermutation}
use Rattle.io_edge.specs.Inputs.{Store}
use Rattle.command_model.specs.Answer.{answer_of_command, writes}
use Rattle.command_model.specs.Command.{merge}
use Rattle.command_model.specs.Files.{IsOutput}

-- Files with their weights that `merge` accepts it accepts in any other order, and what it may write is the same text.
abbrev pub MergesInAnyOrder : Type 0
MergesInAnyOrder =
    (files : Store) (parts others : List (ℕ × List ℕ)) (contents : List (List ℕ)) → IsPermutation parts others
    → answer_of_command files (merge parts) ≡ writes (merge parts) contents
    → (more : List (List ℕ)) × (answer_of_command files (merge others) ≡ writes (merge others) more)
    × ((text : List ℕ) → IsOutput (merge parts) contents text → IsOutput (merge others) more text)
