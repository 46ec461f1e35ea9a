-- How `merge` answers what `profile` and `build` wrote.
use Rattle.std.specs.Prelude.{◌≡◌, ◌≤◌, ℕ, List, [], ◌∷◌, length, Some}
use Rattle.io_edge.specs.Inputs.{Store}
use Rattle.profile_model.specs.Profile.{Profile}
use Rattle.profile_model.specs.Text.{profile_text}
use Rattle.way_laws.specs.Told.{profiled}
use Rattle.command_model.specs.Answer.{answer_of_command, writes}
use Rattle.command_model.specs.Command.{build, merge, profile}
use Rattle.command_model.specs.Files.{IsOutput, file_at, max_profile_bytes}
use Rattle.command_model.specs.Options.{Options}

-- What was counted, of a binary and a branch text.
abbrev pub profile_in : Options → List (List ℕ) → Profile
profile_in options contents = profiled options.map options.base (file_at 0 contents) (file_at 1 contents)

-- A text that `profile` may write, and that is no larger than a profile text can be: alone and with weight 1, `merge`
-- accepts it, and writes its profile lines again and nothing else.
abbrev pub ProfiledIsMerged : Type 0
ProfiledIsMerged =
    (files : Store) (options : Options) (bin perf out : List ℕ) (contents : List (List ℕ)) (text again : List ℕ)
    → answer_of_command files (profile options bin perf) ≡ writes (profile options bin perf) contents
    → IsOutput (profile options bin perf) contents text → length text ≤ max_profile_bytes
    → files out ≡ Some text
    → (answer_of_command files (merge ((1, out) ∷ [])) ≡ writes (merge ((1, out) ∷ [])) (text ∷ []))
    × (IsOutput (merge ((1, out) ∷ [])) (text ∷ []) again → again ≡ profile_text (profile_in options contents))

-- The same of a text that `build` may write: the repairs and the report are passed over.
abbrev pub BuiltIsMerged : Type 0
BuiltIsMerged =
    (files : Store) (options : Options) (bin perf cfg out : List ℕ) (contents : List (List ℕ)) (text again : List ℕ)
    → answer_of_command files (build options bin perf cfg) ≡ writes (build options bin perf cfg) contents
    → IsOutput (build options bin perf cfg) contents text → length text ≤ max_profile_bytes
    → files out ≡ Some text
    → (answer_of_command files (merge ((1, out) ∷ [])) ≡ writes (merge ((1, out) ∷ [])) (text ∷ []))
    × (IsOutput (merge ((1, out) ∷ [])) (text ∷ []) again → again ≡ profile_text (profile_in options contents))
