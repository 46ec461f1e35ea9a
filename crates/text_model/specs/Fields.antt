-- The fields of a line.
use Rattle.std.specs.Prelude.{ℕ, ◌==◌, nat_lt, Bool, ◌||◌, List, filter, length}
use Rattle.std.specs.List.{slice_split}

-- Space and tab stand between fields.
abbrev pub is_blank : ℕ → Bool
is_blank b = b == 32 || b == 9

-- A part with bytes in it.
abbrev pub is_filled : List ℕ → Bool
is_filled part = nat_lt 0 (length part)

-- The fields of a line: its longest runs of bytes other than blanks, from left to right.
unfoldable pub fields_of : List ℕ → List (List ℕ)
fields_of line = filter is_filled (slice_split is_blank line)
