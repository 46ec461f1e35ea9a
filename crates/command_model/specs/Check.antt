-- What `check` writes.
use Rattle.std.specs.Prelude.{ℕ, List, ◌++◌, codes}
use Rattle.text_model.specs.Numbers.{decimal_text}

-- How many functions have a repair that keeps what it promises: all of them.
abbrev pub checked_text : ℕ → List ℕ
checked_text functions = codes "checked " ++ (decimal_text functions ++ codes "\n")
