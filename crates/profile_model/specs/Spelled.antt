-- The numbers that a profile text spells: one for each head, key and target that stands in it.
use Rattle.std.specs.Prelude.{ℕ, List, [], ◌∷◌, ◌++◌, map, Option, None, Some}
use Rattle.std.specs.List.{filter_map}
use Rattle.profile_model.specs.Judging.{kept_lines_of, with_line}
use Rattle.profile_model.specs.Profile.{Line, function_line, body_line, call_line, Profile, count_of, target_of, head_of}
use Rattle.profile_model.specs.Reading.{line_of}
use Rattle.profile_model.specs.Standing.{way_of}
use Rattle.profile_model.specs.Ways.{Way}

-- What a number is of: the entries of a function, the count of a key, the calls of a function from a key.
pub data What : Type 0 where
  head : List ℕ → What
  count : Way → What
  target : Way → List ℕ → What

-- A number, and the line on which it stands.
pub record Number : Type 0 where
  pub line : ℕ
  pub what : What
  pub times : ℕ

-- The numbers on a line, whose way is this.
abbrev pub numbers_on : ℕ → Way → Line → List Number
numbers_on at way (function_line name total entered) = record { line = at; what = head name; times = entered } ∷ []
numbers_on at way (body_line depth offset disc n targets) =
    record { line = at; what = count way; times = n }
    ∷ map (λ called. record { line = at; what = target way called.0; times = called.1 }) targets
numbers_on at way (call_line depth offset disc name total) = []

-- The numbers on a line, where it has the form of one.
abbrev pub numbers_of_line : ℕ → List Line → Option Line → List Number
numbers_of_line at before None = []
numbers_of_line at before (Some line) = numbers_on at (way_of before line) line

-- The numbers on lines, in order, where these stand before them, the last one first.
unfoldable pub numbers_from : List Line → List (ℕ × List ℕ) → List Number
numbers_from before [] = []
numbers_from before (line ∷ lines) =
    numbers_of_line line.0 before (line_of line.1) ++ numbers_from (with_line before (line_of line.1)) lines

-- The numbers of a text.
abbrev pub numbers_of : List ℕ → List Number
numbers_of text = numbers_from [] (kept_lines_of text)

-- The numbers of each kind.
abbrev pub as_count : What → ℕ → Option (Way × ℕ)
as_count (head name) times = None
as_count (count way) times = Some (way, times)
as_count (target way name) times = None

abbrev pub as_call : What → ℕ → Option (Way × List ℕ × ℕ)
as_call (head name) times = None
as_call (count way) times = None
as_call (target way name) times = Some (way, name, times)

abbrev pub as_head : What → ℕ → Option (List ℕ × ℕ)
as_head (head name) times = Some (name, times)
as_head (count way) times = None
as_head (target way name) times = None

-- What these numbers say was counted.
unfoldable pub profile_by : List Number → Profile
profile_by numbers = record {
  counts = filter_map (λ number. as_count number.what number.times) numbers;
  calls = filter_map (λ number. as_call number.what number.times) numbers;
  heads = filter_map (λ number. as_head number.what number.times) numbers;
}

-- What a text says was counted.
abbrev pub spelled : List ℕ → Profile
spelled text = profile_by (numbers_of text)

-- The number of a head, a key or a target: 0 where none is told.
abbrev pub number_in : Profile → What → ℕ
number_in p (head name) = head_of p name
number_in p (count way) = count_of p way
number_in p (target way name) = target_of p way name
