-- What writing to a sink appends.
use Rattle.std.specs.Prelude.{ℕ, ◌<◌, ◌≤◌, List, length, take, Option}
use Rattle.std.specs.Io.KnownBytes.{Appends}

-- n of the bytes are taken, and not none of some.
abbrev pub IsTaken : ℕ → List ℕ → Type 0
IsTaken n bytes = (n ≤ length bytes) × (0 < length bytes → 0 < n)

-- Told bytes grow by the first of these, up to some place.
abbrev pub AppendsPrefix : Option (List ℕ) → Option (List ℕ) → List ℕ → Type 0
AppendsPrefix old new bytes = (n : ℕ) × Appends old new (take n bytes)
