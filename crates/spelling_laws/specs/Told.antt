-- Profiles whose text says all that was counted.
use Rattle.std.specs.Prelude.{◌≡◌, ◌<◌, ◌≤◌, ℕ, ◌^◌, true, nat_lt, List, [], ◌∷◌, ◌++◌, filter, flat_map, length, None}
use Rattle.std.specs.List.{AllByRecursion}
use Rattle.text_model.specs.Laws.{HasNoLineFeed, ended}
use Rattle.merge_laws.specs.Orders.{AreGoodTexts}
use Rattle.profile_laws.specs.Counts.{CountTheSame}
use Rattle.profile_model.specs.Judging.{first_bad_of_profile}
use Rattle.profile_model.specs.Merge.{merge_text}
use Rattle.profile_model.specs.Names.{is_name}
use Rattle.profile_model.specs.Profile.{Profile, count_of, target_of, head_of, entered, recorded}
use Rattle.profile_model.specs.Reading.{is_passed}
use Rattle.profile_model.specs.Spelled.{spelled}
use Rattle.profile_model.specs.Text.{profile_text}
use Rattle.profile_model.specs.Ways.{Step, Way, to_function, to_body, to_call}

-- A function, a body line and an inlined call that a line can tell: offsets have 16 bits, discriminators 32.
abbrev pub IsFunctionStep : Step → Type 0
IsFunctionStep s = (s ≡ to_function s.name) × (is_name s.name ≡ true)

abbrev pub IsBodyStep : Step → Type 0
IsBodyStep s = (s ≡ to_body s.offset s.disc) × (s.offset < 2 ^ 16) × (s.disc < 2 ^ 32)

abbrev pub IsCallStep : Step → Type 0
IsCallStep s =
    (s ≡ to_call s.offset s.disc s.name) × (s.offset < 2 ^ 16) × (s.disc < 2 ^ 32) × (is_name s.name ≡ true)

-- Inlined calls, and then a body line.
abbrev pub EndInBody : Way → Type 0
EndInBody [] = ⊥
EndInBody (s ∷ []) = IsBodyStep s
EndInBody (s ∷ t ∷ way) = IsCallStep s × EndInBody (t ∷ way)

-- The way of a key that lines can tell: a function, inlined calls and a body line, at most 256 deep.
abbrev pub IsToldWay : Way → Type 0
IsToldWay [] = ⊥
IsToldWay (s ∷ way) = IsFunctionStep s × EndInBody way × (length way ≤ 256)

-- The way of a function.
abbrev pub IsFunctionWay : Way → Type 0
IsFunctionWay [] = ⊥
IsFunctionWay (s ∷ []) = IsFunctionStep s
IsFunctionWay (s ∷ t ∷ way) = ⊥

-- What was counted can be told: all names are names, no key is too deep, and all numbers have 64 bits. A total may
-- stand still.
pub record CanBeWritten (p : Profile) : Type 0 where
  pub keys : AllByRecursion IsToldWay (recorded p)
  pub functions : AllByRecursion IsFunctionWay (entered p)
  pub callees : AllByRecursion (λ c. is_name c.1 ≡ true) (filter (λ c. nat_lt 0 c.2) p.calls)
  pub counts_fit : (way : Way) → count_of p way < 2 ^ 64
  pub targets_fit : (way : Way) (name : List ℕ) → target_of p way name < 2 ^ 64
  pub heads_fit : (name : List ℕ) → head_of p name < 2 ^ 64

-- A line that a reader passes over, as those of a report.
abbrev pub IsComment : List ℕ → Type 0
IsComment line = HasNoLineFeed line × (is_passed line ≡ true)

-- The text of a profile, with such lines behind it.
abbrev pub text_with : Profile → List (List ℕ) → List ℕ
text_with p comments = profile_text p ++ flat_map ended comments

-- The text of what can be told is good, and says just that.
abbrev pub TextIsReadBack : Type 0
TextIsReadBack =
    (p : Profile) (comments : List (List ℕ)) (file : ℕ) → CanBeWritten p → AllByRecursion IsComment comments
    → (first_bad_of_profile file (text_with p comments) ≡ None) × CountTheSame (spelled (text_with p comments)) p

-- So a merge of that text alone is good, and writes the profile's text again.
abbrev pub MergeWritesAgain : Type 0
MergeWritesAgain =
    (p : Profile) (comments : List (List ℕ)) → CanBeWritten p → AllByRecursion IsComment comments
    → AreGoodTexts ((1, text_with p comments) ∷ []) × (merge_text ((1, text_with p comments) ∷ []) ≡ profile_text p)
