-- The lines of a text.
use Rattle.std.specs.Prelude.{ℕ, ◌==◌, Bool, List, [], ◌∷◌, length, if◌then◌else◌}
use Rattle.std.specs.List.{slice_split}

-- The byte that ends a line.
-- Why: A CR is a byte of its field, and a text with CRLF ends is refused, not repaired: a build farm should learn of
-- such a text rather than get a profile of half of it.
abbrev pub is_line_feed : ℕ → Bool
is_line_feed b = b == 10

-- The parts but for an empty last one.
abbrev pub without_empty_end : List (List ℕ) → List (List ℕ)
without_empty_end [] = []
without_empty_end (last ∷ []) = if length last == 0 then [] else last ∷ []
without_empty_end (part ∷ next ∷ parts) = part ∷ without_empty_end (next ∷ parts)

-- The parts but for the last one.
abbrev pub without_end : List (List ℕ) → List (List ℕ)
without_end [] = []
without_end (last ∷ []) = []
without_end (part ∷ next ∷ parts) = part ∷ without_end (next ∷ parts)

-- The lines of a text are its parts between line feeds. An empty rest behind the last line feed is no line.
unfoldable pub lines_of : List ℕ → List (List ℕ)
lines_of text = without_empty_end (slice_split is_line_feed text)

-- Those lines of a text that a line feed ends.
unfoldable pub ended_lines_of : List ℕ → List (List ℕ)
ended_lines_of text = without_end (slice_split is_line_feed text)
