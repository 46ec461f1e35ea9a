-- Sums by number.
use Rattle.std.specs.Prelude.{◌≡◌, ℕ, ◌==◌, List, slice_index, if◌then◌else◌}

-- A number got this sum, and all others kept theirs.
abbrev pub IsWithSum : List ℕ → ℕ → ℕ → List ℕ → Type 0
IsWithSum old id sum new = (k : ℕ) → slice_index new k ≡ (if id == k then sum else slice_index old k)
