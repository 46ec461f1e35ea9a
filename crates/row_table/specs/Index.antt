-- What a table keeps beside its sequences, so that it can be searched.
use Rattle.std.specs.Prelude.{◌≡◌, ◌≤◌, ℕ, true, List, Contains, length, position}
use Rattle.std.specs.List.{AllByRecursion}
use Rattle.std.specs.List.Sorted.{IsStrictlyIncreasing}
use Rattle.address_spans.specs.declared.span.Span.{Span}
use Rattle.address_spans.specs.Spans.{owner_at, AreDisjoint}
use Rattle.line_model.specs.Rows.{Sequence, addresses_of, holds, never_fall}
use Rattle.row_table.specs.Told.{row_count}

-- The addresses of a sequence never fall.
abbrev pub IsRising : Sequence → Type 0
IsRising sequence = never_fall (addresses_of sequence) ≡ true

-- The spans tell for each address the place of the first sequence that holds it.
pub record IsIndex (sequences : List Sequence) (spans : List Span) : Type 0 where
  pub disjoint : AreDisjoint spans
  pub first : (address : ℕ) → owner_at spans address ≡ position (holds address) sequences

-- Ascending addresses, those of all sequences among them, and no more than the sequences have rows.
pub record HaveAddresses (sequences : List Sequence) (cuts : List ℕ) : Type 0 where
  pub ascending : IsStrictlyIncreasing cuts
  pub all : AllByRecursion (λ sequence. AllByRecursion (Contains cuts) (addresses_of sequence)) sequences
  pub few : length cuts ≤ row_count sequences
