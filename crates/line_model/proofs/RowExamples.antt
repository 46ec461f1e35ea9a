-- The row of an address on worked tables.
use Rattle.std.proofs.Common.{◌≡◌, ℕ, true, false, Bool, List, [], ◌∷◌, ◌++◌, length, map, Option, Some, None, refl}
use Rattle.line_model.specs.declared.row.Row.{Row}
use Rattle.elf_model.specs.Fields.{number_at}
use Rattle.elf_model.specs.Segments.{is_live}
use Rattle.line_model.specs.Rows.{Sequence, sequences_of, addresses_of, live_sequences, never_fall, row_among, row_at}

abbrev row : ℕ → ℕ → Row
row address line = record { address = address; line = line; disc = 0; ends = false }

abbrev end : ℕ → Row
end address = record { address = address; line = 0; disc = 0; ends = true }

-- two sequences, an empty one, one over the first, and rows behind the last end
table : List Row
table = row 16 1 ∷ row 20 2 ∷ row 20 3 ∷ end 32 ∷ end 5 ∷ row 24 7 ∷ end 40 ∷ row 50 9 ∷ []

three_sequences : map addresses_of (sequences_of table) ≡ (16 ∷ 20 ∷ 20 ∷ 32 ∷ []) ∷ (5 ∷ []) ∷ (24 ∷ 40 ∷ []) ∷ []
unfolding table
three_sequences = refl

-- of two rows at one address the last counts
last_row : row_among (sequences_of table) 23 ≡ Some (row 20 3)
unfolding table
last_row = refl

-- of two sequences that hold an address the first
first_sequence : row_among (sequences_of table) 30 ≡ Some (row 20 3)
unfolding table
first_sequence = refl

behind_the_first : row_among (sequences_of table) 32 ≡ Some (row 24 7)
unfolding table
behind_the_first = refl

before_all : row_among (sequences_of table) 15 ≡ None
unfolding table
before_all = refl

behind_all : row_among (sequences_of table) 50 ≡ None
unfolding table
behind_all = refl

fallen : map never_fall ((16 ∷ 20 ∷ 19 ∷ []) ∷ (16 ∷ 16 ∷ []) ∷ (16 ∷ []) ∷ [] ∷ []) ≡ false ∷ true ∷ true ∷ true ∷ []
fallen = refl

-- a file with one segment of code, from 16 up to 48
abbrev file : List ℕ
file =
    127 ∷ 69 ∷ 76 ∷ 70 ∷ 2 ∷ 1 ∷ 1 ∷ 0 ∷ 0 ∷ 0 ∷ 0 ∷ 0 ∷ 0 ∷ 0 ∷ 0 ∷ 0 ∷ 2 ∷ 0 ∷ 62 ∷ 0 ∷
    1 ∷ 0 ∷ 0 ∷ 0 ∷ 0 ∷ 0 ∷ 0 ∷ 0 ∷ 0 ∷ 0 ∷ 0 ∷ 0 ∷ 64 ∷ 0 ∷ 0 ∷ 0 ∷ 0 ∷ 0 ∷ 0 ∷ 0 ∷
    0 ∷ 0 ∷ 0 ∷ 0 ∷ 0 ∷ 0 ∷ 0 ∷ 0 ∷ 0 ∷ 0 ∷ 0 ∷ 0 ∷ 64 ∷ 0 ∷ 56 ∷ 0 ∷ 1 ∷ 0 ∷ 64 ∷ 0 ∷
    0 ∷ 0 ∷ 0 ∷ 0 ∷ 1 ∷ 0 ∷ 0 ∷ 0 ∷ 5 ∷ 0 ∷ 0 ∷ 0 ∷ 0 ∷ 0 ∷ 0 ∷ 0 ∷ 0 ∷ 0 ∷ 0 ∷ 0 ∷
    16 ∷ 0 ∷ 0 ∷ 0 ∷ 0 ∷ 0 ∷ 0 ∷ 0 ∷ 16 ∷ 0 ∷ 0 ∷ 0 ∷ 0 ∷ 0 ∷ 0 ∷ 0 ∷ 0 ∷ 0 ∷ 0 ∷ 0 ∷
    0 ∷ 0 ∷ 0 ∷ 0 ∷ 32 ∷ 0 ∷ 0 ∷ 0 ∷ 0 ∷ 0 ∷ 0 ∷ 0 ∷ 0 ∷ 0 ∷ 0 ∷ 0 ∷ 0 ∷ 0 ∷ 0 ∷ 0 ∷ []

-- Of sequences that have no rows, begin before the code, end behind it, fall, come back to where they began, or hold the
-- code to its last byte, the last alone is live.
some_sequences : List Row
some_sequences =
    end 32 ∷ row 15 1 ∷ end 32 ∷ row 16 2 ∷ end 49 ∷ row 16 3 ∷ row 24 3 ∷ row 23 3 ∷ end 32 ∷ row 16 4 ∷ end 16
    ∷ row 16 5 ∷ row 16 6 ∷ row 40 7 ∷ end 48 ∷ row 17 8 ∷ []

live : map addresses_of (live_sequences file some_sequences) ≡ (16 ∷ 16 ∷ 40 ∷ 48 ∷ []) ∷ []
unfolding some_sequences is_live number_at
live = refl

in_the_file : map (row_at file some_sequences) (15 ∷ 16 ∷ 39 ∷ 47 ∷ 48 ∷ []) ≡ None ∷ Some (row 16 6) ∷ Some (row 16 6) ∷ Some (row 40 7) ∷ None ∷ []
unfolding some_sequences is_live number_at
in_the_file = refl
