-- Entries as they stand in a file.
use Rattle.std.specs.Prelude.{◌<◌, ◌≤◌, ℕ, List, All, AllPairs}
use Rattle.unit_model.specs.Entries.{Entry}

-- Each entry begins before those behind it, and all begin from one offset on and before another.
pub record AreInOrder (from to : ℕ) (entries : List Entry) : Type 0 where
  pub ascending : AllPairs (λ before after. before.at < after.at) entries
  pub within : All (λ entry. (from ≤ entry.at) × (entry.at < to)) entries
