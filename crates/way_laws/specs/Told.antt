-- What `profile` says can be told.
use Rattle.std.specs.Prelude.{◌≡◌, Bool, ℕ, List, None, Option}
use Rattle.text_model.specs.Lines.{lines_of}
use Rattle.profile_model.specs.Profile.{Profile}
use Rattle.sample_model.specs.Judging.{first_bad_of_text}
use Rattle.spelling_laws.specs.Told.{CanBeWritten}
use Rattle.output_model.specs.Output.{loading_of, sampled_by}
use Rattle.output_model.specs.Program.{program_of}
use Rattle.output_model.specs.Sampled.{profile_of}

-- The profile of a binary and a branch text.
abbrev pub profiled : Option (List ℕ) → Bool → List ℕ → List ℕ → Profile
profiled name base binary text =
    profile_of (program_of binary base) (sampled_by (loading_of name binary) binary (lines_of text))

-- The profile of a binary and a good branch text can be told.
abbrev pub ProfilesCanBeTold : Type 0
ProfilesCanBeTold =
    (name : Option (List ℕ)) (base : Bool) (binary text : List ℕ) (file : ℕ) → first_bad_of_text file text ≡ None
    → CanBeWritten (profiled name base binary text)
