-- The numbers of a profile, with repaired counts.
use Rattle.std.specs.Prelude.{◌≡◌, ℕ, List, length, slice_index, slice_index_or, Option, None}
use Rattle.std.specs.Option.{unwrap_or}
use Rattle.profile_tree.specs.Numbers.{Numbers}

-- Each key that is held has its count, and all other numbers are what they were.
pub record AreWithHeld (held : List (Option ℕ)) (old new : Numbers) : Type 0 where
  pub calls : new.calls ≡ old.calls
  pub heads : new.heads ≡ old.heads
  pub len : length new.counts ≡ length old.counts
  pub each : (id : ℕ) → slice_index new.counts id ≡ unwrap_or (slice_index_or held id None) (slice_index old.counts id)
