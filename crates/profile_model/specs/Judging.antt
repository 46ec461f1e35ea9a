-- Which line of a profile text is its first bad place.
use Rattle.std.specs.Prelude.{ℕ, nat_lt, not, List, [], ◌∷◌, filter, Option, None, Some}
use Rattle.std.specs.List.{enumerate_from}
use Rattle.std.specs.Option.{option_map}
use Rattle.refusal.specs.declared.kind.Kind.{Kind}
use Rattle.refusal.specs.declared.kind.Kind.TheVariants.{BadLine, TooDeep, BadIndent, KeyTwice}
use Rattle.refusal.specs.declared.place.Place.{Place}
use Rattle.refusal.specs.Place.{first_bad, first_cause}
use Rattle.text_model.specs.Lines.{lines_of}
use Rattle.profile_model.specs.Profile.{Line}
use Rattle.profile_model.specs.Reading.{is_passed, line_of}
use Rattle.profile_model.specs.Standing.{depth_of, can_stand, tells_again}

-- The most spaces that a line may begin with.
-- Why: At most 255 inlined calls make 257 steps and 256 spaces, so no key is too deep for its line, and the law on
-- `merge` needs no premise on depth.
abbrev pub max_depth : ℕ
max_depth = 256

-- The lines of a text that are not passed over, with their numbers.
unfoldable pub kept_lines : List (ℕ × List ℕ) → List (ℕ × List ℕ)
kept_lines lines = filter (λ line. not (is_passed line.1)) lines

abbrev pub kept_lines_of : List ℕ → List (ℕ × List ℕ)
kept_lines_of text = kept_lines (enumerate_from 1 (lines_of text))

-- Why what a line says is refused behind these lines, the last one first, or none.
unfoldable pub cause_of : List Line → Line → Option Kind
cause_of before line = first_cause (
    (nat_lt max_depth (depth_of line), TooDeep)
    ∷ (not (can_stand before (depth_of line)), BadIndent)
    ∷ (tells_again before line, KeyTwice)
    ∷ [])

-- Why a line is refused behind these lines, or none.
abbrev pub cause_of_line : List Line → Option Line → Option Kind
cause_of_line before None = Some BadLine
cause_of_line before (Some line) = cause_of before line

-- The lines before the next one.
abbrev pub with_line : List Line → Option Line → List Line
with_line before None = before
with_line before (Some line) = line ∷ before

-- The item of a line.
abbrev pub item : ℕ → ℕ → Option Kind → Option Place
item file number cause = option_map (λ kind. record { file = file; at = number; kind = kind }) cause

-- Lines as items, in order, where these stand before them.
unfoldable pub items_from : ℕ → List Line → List (ℕ × List ℕ) → List (Option Place)
items_from file before [] = []
items_from file before (line ∷ lines) =
    item file line.0 (cause_of_line before (line_of line.1))
    ∷ items_from file (with_line before (line_of line.1)) lines

-- The first bad place of a profile text, its size aside.
abbrev pub first_bad_of_profile : ℕ → List ℕ → Option Place
first_bad_of_profile file text = first_bad (items_from file [] (kept_lines_of text))
