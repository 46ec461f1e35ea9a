-- How a profile is written (LLVM, SampleProfReader.h, "Text format").
use Rattle.std.specs.Prelude.{ℕ, ◌==◌, List, [], ◌∷◌, ◌++◌, codes, if◌then◌else◌}
use Rattle.std.specs.List.{flat_map, repeat}
use Rattle.text_model.specs.Numbers.{decimal_text}
use Rattle.profile_model.specs.Profile.{Profile, Line, function_line, body_line, call_line, lines_of}

-- A discriminator is left out where it is 0.
abbrev pub disc_text : ℕ → List ℕ
disc_text disc = if disc == 0 then [] else codes "." ++ decimal_text disc

-- A line and its discriminator.
abbrev pub location_text : ℕ → ℕ → List ℕ
location_text offset disc = decimal_text offset ++ disc_text disc

-- A function and a number of it.
abbrev pub named_text : List ℕ → ℕ → List ℕ
named_text name n = name ++ codes ":" ++ decimal_text n

-- A target of a body line.
abbrev pub target_text : List ℕ × ℕ → List ℕ
target_text (name, times) = codes " " ++ named_text name times

-- A space for each step above a line.
abbrev pub indent : ℕ → List ℕ
indent depth = repeat depth (codes " ")

-- What stands in a line, up to the line feed that ends it.
abbrev pub line_text : Line → List ℕ
line_text (function_line name total head) = named_text name total ++ codes ":" ++ decimal_text head
line_text (body_line depth offset disc count targets) =
    indent depth ++ location_text offset disc ++ codes ": " ++ decimal_text count ++ flat_map target_text targets
line_text (call_line depth offset disc name total) =
    indent depth ++ location_text offset disc ++ codes ": " ++ named_text name total

-- Lines, each with its line feed.
unfoldable pub text_of_lines : List Line → List ℕ
text_of_lines lines = flat_map (λ line. line_text line ++ 10 ∷ []) lines

-- The text of a profile.
abbrev pub profile_text : Profile → List ℕ
profile_text p = text_of_lines (lines_of p)
