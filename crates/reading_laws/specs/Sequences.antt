-- The sequences of a line table and the row of an address, by where the rows stand.
use Rattle.std.specs.Prelude.{◌≡◌, ◌<◌, ◌≤◌, ◌+◌, ◌↔◌, ℕ, true, false, List, [], ◌∷◌, ◌++◌, All, AllPairs, slice_get, Some}
use Rattle.elf_model.specs.Segments.{is_live}
use Rattle.line_model.specs.declared.row.Row.{Row}
use Rattle.line_model.specs.Rows.{Sequence, ends, holds, is_live_sequence, row_in, sequences_of}

-- The rows of a sequence, and behind them the one that ends it.
abbrev pub all_rows : Sequence → List Row
all_rows sequence = sequence.rows ++ sequence.end ∷ []

-- None of these rows ends a sequence.
abbrev pub NoneEnds : List Row → Type 0
NoneEnds rows = All (λ row. ends row ≡ false) rows

-- Sequences are what some rows are cut into: they stand one behind the other, each up to the first row that ends one,
-- and no row behind the last of them ends one.
abbrev pub AreCutInto : List Row → List Sequence → Type 0
AreCutInto rows [] = NoneEnds rows
AreCutInto rows (sequence ∷ more) =
    NoneEnds sequence.rows × (ends sequence.end ≡ true) × (rest : List Row) × (rows ≡ all_rows sequence ++ rest)
    × AreCutInto rest more

-- The sequences of some rows are what these are cut into, and nothing else is.
abbrev pub SequencesAreCut : Type 0
SequencesAreCut =
    (rows : List Row) (sequences : List Sequence) → AreCutInto rows sequences ↔ (sequences_of rows ≡ sequences)

-- No address of some rows is below one before it.
abbrev pub Ascend : List Row → Type 0
Ascend rows = AllPairs (λ before behind. before.address ≤ behind.address) rows

-- A sequence has a first row, the addresses from there up to that of its end are code, and its addresses ascend.
pub record IsLive (file : List ℕ) (sequence : Sequence) : Type 0 where
  pub first : Row
  pub begins : slice_get sequence.rows 0 ≡ Some first
  pub code : is_live file first.address sequence.end.address ≡ true
  pub ascends : Ascend (all_rows sequence)

-- The live sequences, which alone count, are these.
abbrev pub LiveSequencesAscend : Type 0
LiveSequencesAscend =
    (file : List ℕ) (sequence : Sequence) → (is_live_sequence file sequence ≡ true) ↔ IsLive file sequence

-- A row of a sequence covers the addresses from its own up to that of the row behind it.
pub record Covers (sequence : Sequence) (row : Row) (address : ℕ) : Type 0 where
  pub place : ℕ
  pub there : slice_get sequence.rows place ≡ Some row
  pub next : Row
  pub behind : slice_get (all_rows sequence) (place + 1) ≡ Some next
  pub from : row.address ≤ address
  pub to : address < next.address

-- The row of an address in a sequence that ascends and holds it is the one that covers it.
abbrev pub RowsCoverAddresses : Type 0
RowsCoverAddresses =
    (sequence : Sequence) (address : ℕ) (row : Row) → Ascend (all_rows sequence) → holds address sequence ≡ true
    → (row_in address sequence ≡ Some row) ↔ Covers sequence row address
