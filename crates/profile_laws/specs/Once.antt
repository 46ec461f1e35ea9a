-- That a profile text without a bad place tells each of its numbers once.
use Rattle.std.specs.Prelude.{◌≡◌, ◌≢◌, ℕ, AllPairs, List, None}
use Rattle.profile_model.specs.Judging.{first_bad_of_profile}
use Rattle.profile_model.specs.Spelled.{numbers_of}

-- No two of some items tell the same.
abbrev pub StandOnce : {T U : Type 0} → (T → U) → List T → Type 0
StandOnce tell items = AllPairs (λ x y. tell x ≢ tell y) items

-- Each head, key and target has one number at most in a text that has no bad place.
abbrev pub NumbersStandOnce : Type 0
NumbersStandOnce =
    (file : ℕ) (text : List ℕ) → first_bad_of_profile file text ≡ None
    → StandOnce (λ number. number.what) (numbers_of text)
