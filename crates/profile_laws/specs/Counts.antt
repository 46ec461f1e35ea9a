-- That a profile says what was counted, however the lists of counts are cut and ordered.
use Rattle.std.specs.Prelude.{◌≡◌, ℕ, List}
use Rattle.profile_model.specs.Profile.{Profile, count_of, target_of, head_of, lines_of}
use Rattle.profile_model.specs.Ways.{Way}

-- Two profiles count the same: each key, each call of a function from a key, and each entry of a function as often.
pub record CountTheSame (p q : Profile) : Type 0 where
  pub keys : (way : Way) → count_of p way ≡ count_of q way
  pub targets : (way : Way) (name : List ℕ) → target_of p way name ≡ target_of q way name
  pub heads : (name : List ℕ) → head_of p name ≡ head_of q name

-- Profiles that count the same have the same lines.
abbrev pub LinesAreByCounts : Type 0
LinesAreByCounts = (p q : Profile) → CountTheSame p q → lines_of p ≡ lines_of q
