-- Tests of a line that several kinds of text share.
use Rattle.std.specs.Prelude.{ℕ, ◌==◌, nat_eq, Bool, ◌||◌, List, [], ◌∷◌, length, codes}
use Rattle.std.specs.List.{starts_with}
use Rattle.text_model.specs.Fields.{fields_of}

-- Whether the needle stands in the text somewhere.
abbrev pub contains : List ℕ → List ℕ → Bool
contains [] needle = length needle == 0
contains (b ∷ text) needle = starts_with nat_eq (b ∷ text) needle || contains text needle

-- A blank line has no field.
abbrev pub is_blank_line : List ℕ → Bool
is_blank_line line = length (fields_of line) == 0

-- A comment begins with # at its first byte.
abbrev pub is_comment : List ℕ → Bool
is_comment line = starts_with nat_eq line (codes "#")
