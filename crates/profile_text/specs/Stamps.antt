-- The last stamps of numbers.
use Rattle.std.specs.Prelude.{◌≡◌, ℕ, ◌+◌, ◌≤◌, ◌==◌, max, List, length, slice_index, if◌then◌else◌}

-- A longer list says the same of each number.
abbrev pub ReadsTheSame : List ℕ → List ℕ → Type 0
ReadsTheSame old new = (k : ℕ) → slice_index new k ≡ slice_index old k

-- A number got this stamp, and all others kept theirs.
pub record IsStamped (old : List ℕ) (id stamp : ℕ) (new : List ℕ) : Type 0 where
  pub each : (k : ℕ) → slice_index new k ≡ (if k == id then stamp else slice_index old k)
  pub len : length new ≤ max (length old) (id + 1)
