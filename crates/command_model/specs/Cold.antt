-- The words of `pgo-cold`.
use Rattle.std.specs.Prelude.{ℕ, List, [], ◌∷◌, codes, Option, None, if◌then◌else◌}
use Rattle.std.specs.Option.{option_map}
use Rattle.std.specs.Str.{bytes_eq}
use Rattle.command_model.specs.Command.{Command, cold, cold_profile}
use Rattle.command_model.specs.Options.{base_has, operands_of, options_in, options_of, profile_has}

-- `[--map=NAME] [--base] BIN PERF`, behind the word `profile`
abbrev pub profile_by : List (List ℕ) → List (List ℕ) → Option Command
profile_by words (bin ∷ perf ∷ []) =
    option_map (λ options. cold_profile options bin perf)
    (options_of profile_has words)
profile_by words _ = None

-- The words behind a first one that is no option, if that is `profile`.
abbrev pub named_by : List ℕ → List (List ℕ) → Option Command
named_by name words =
    if bytes_eq name (codes "profile") then profile_by (options_in words) (operands_of words) else None

-- `[--base] BIN PROFILE`, and else `profile` and what stands behind it. So two words are the former, whatever they are.
abbrev pub cold_by : List (List ℕ) → List (List ℕ) → Option Command
cold_by words (bin ∷ prof ∷ []) =
    option_map (λ options. cold options bin prof)
    (options_of base_has words)
cold_by [] (name ∷ words) = named_by name words
cold_by _ _ = None

-- What the words ask `pgo-cold` for, if they do.
unfoldable pub cold_of : List (List ℕ) → Option Command
cold_of words = cold_by (options_in words) (operands_of words)
