-- The row of an address in a line table (DWARF 5, section 6.2.2).
use Rattle.std.specs.Prelude.{ℕ, Bool, true, false, ◌&&◌, nat_lt, nat_le, List, [], ◌∷◌, ◌++◌, map, filter, find, reverse, Option, option_and_then}
use Rattle.std.specs.List.{slice_split, zip}
use Rattle.elf_model.specs.Segments.{is_live}
use Rattle.line_model.specs.declared.row.Row.{Row}

-- A sequence: its rows, and the row that ends it.
pub record Sequence : Type 0 where
  pub rows : List Row
  pub end : Row

-- The row ends a sequence.
abbrev pub ends : Row → Bool
ends row = row.ends

-- The sequences of some rows: the parts between the rows that end one, each with its end. What stands behind the last
-- end is no sequence.
abbrev pub sequences_of : List Row → List Sequence
sequences_of rows = map (λ p. record { rows = p.0; end = p.1 }) (zip (slice_split ends rows) (filter ends rows))

-- No address is below the one before.
abbrev pub never_fall : List ℕ → Bool
never_fall [] = true
never_fall (a ∷ []) = true
never_fall (a ∷ b ∷ rest) = nat_le a b && never_fall (b ∷ rest)

-- The addresses of a sequence, the one behind its last row too.
abbrev pub addresses_of : Sequence → List ℕ
addresses_of sequence = map (λ row. row.address) (sequence.rows ++ sequence.end ∷ [])

-- Whether a test holds of the range of a sequence: from the address of its first row to that of its end. Without rows
-- there is none.
abbrev pub with_range : (ℕ → ℕ → Bool) → Sequence → Bool
with_range test sequence = elim sequence.rows [
  | [] ↦ false
  | first ∷ rows ↦ test first.address sequence.end.address
]

-- A sequence is live where it has rows, its addresses never fall, and its range is live in the file.
abbrev pub is_live_sequence : List ℕ → Sequence → Bool
is_live_sequence file sequence = with_range (is_live file) sequence && never_fall (addresses_of sequence)

-- The range of a sequence holds an address.
abbrev pub holds : ℕ → Sequence → Bool
holds address = with_range (λ lo hi. nat_le lo address && nat_lt address hi)

-- The last row of a sequence whose address is not above this one.
abbrev pub row_in : ℕ → Sequence → Option Row
row_in address sequence = find (λ row. nat_le row.address address) (reverse sequence.rows)

-- The live sequences among some rows.
abbrev pub live_sequences : List ℕ → List Row → List Sequence
live_sequences file rows = filter (is_live_sequence file) (sequences_of rows)

-- The row of an address: that of the first sequence that holds it.
abbrev pub row_among : List Sequence → ℕ → Option Row
row_among sequences address = option_and_then (row_in address) (find (holds address) sequences)

-- The row of an address in a file's line table, of which the live sequences count.
abbrev pub row_at : List ℕ → List Row → ℕ → Option Row
row_at file rows address = row_among (live_sequences file rows) address
