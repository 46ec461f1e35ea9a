-- Files that are there and good.
use Rattle.std.specs.Prelude.{◌≡◌, ℕ, ◌-◌, ⊤, List, [], ◌∷◌, ◌++◌, take, None, Some}
use Rattle.io_edge.specs.Inputs.{Store}
use Rattle.command_model.specs.Answer.{bytes_of}
use Rattle.command_model.specs.Command.{Command}
use Rattle.command_model.specs.Files.{Asked, files_of}

-- These files are there and good, one behind the other, behind good ones of these bytes.
abbrev pub AreGood : Store → List (List ℕ) → List Asked → Type 0
AreGood files before [] = ⊤
AreGood files before (asked ∷ rest) =
    (bytes : List ℕ) × (bytes_of files asked.source ≡ Some bytes) × (asked.judge before bytes ≡ None)
    × AreGood files (before ++ bytes ∷ []) rest

-- The files before the k-th are there and good.
abbrev pub AreGoodBefore : Store → Command → ℕ → Type 0
AreGoodBefore files command k = AreGood files [] (take (k - 1) (files_of command))
