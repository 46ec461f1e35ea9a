-- Changes: the addresses at which ranges begin and those behind the ones at which they end.
use Rattle.std.specs.Prelude.{ℕ, ◌+◌, ◌-◌, ◌^◌, ◌<◌, ◌≤◌, nat_le, nat_lt, List, [], ◌∷◌, filter, sum_by, slice_index_or, if◌then◌else◌}
use Rattle.profile_model.specs.declared.ran_range.RanRange.{RanRange}
use Rattle.range_counts.specs.declared.changes.Change.{Change}

-- A range begins at its first address, and has ended behind its last where there is an address behind.
abbrev pub changes_at : RanRange → List Change
changes_at range =
    record { at = range.lo; begun = range.times; ended = 0 }
    ∷ (if nat_lt (range.hi + 1) (2 ^ 64) then record { at = range.hi + 1; begun = 0; ended = range.times } ∷ [] else [])

-- What began at an address or before it.
abbrev pub begun_by : List Change → ℕ → ℕ
begun_by changes address = sum_by (λ change. change.begun) (filter (λ change. nat_le change.at address) changes)

-- What ended before an address.
abbrev pub ended_by : List Change → ℕ → ℕ
ended_by changes address = sum_by (λ change. change.ended) (filter (λ change. nat_le change.at address) changes)

-- What is running at an address: what began at it or before it and has not ended before it.
abbrev pub running_at : List Change → ℕ → ℕ
running_at changes address = begun_by changes address - ended_by changes address

-- Nothing has ended that has not begun, and the sums of both fit 64 bits.
pub record AreSound (changes : List Change) : Type 0 where
  pub ended_begun : (address : ℕ) → address < 2 ^ 64 → ended_by changes address ≤ begun_by changes address
  pub begun_fits : sum_by (λ change. change.begun) changes < 2 ^ 64
  pub ended_fits : sum_by (λ change. change.ended) changes < 2 ^ 64

-- At the end of all addresses nothing changes.
abbrev pub no_change : Change
no_change = record { at = 2 ^ 64; begun = 0; ended = 0 }

-- The address of a change, or the end of all addresses behind the last one.
abbrev pub address_of : List Change → ℕ → ℕ
address_of changes i = (slice_index_or changes i no_change).at
