-- Texts that were read and summed.
use Rattle.std.specs.Prelude.{ℕ, ◌<◌, ◌≤◌, ◌*◌, ◌^◌, List, length}
use Rattle.key_types.specs.declared.key.Key.{Key}
use Rattle.profile_merge.specs.Laws.{AreNumbered}
use Rattle.profile_merge.specs.Sums.{Sums}
use Rattle.profile_merge.specs.Told.{AreSumsIn}
use Rattle.profile_model.specs.Merge.{merged}

-- The names and keys of what was read, and the sums of their numbers.
pub record State : Type 0 where
  pub names : List (List ℕ)
  pub keys : List Key
  pub sums : Sums

-- These texts were read and summed, each with its weight.
pub record IsMergeOf (state : State) (texts : List (ℕ × List ℕ)) : Type 0 where
  pub numbered : AreNumbered state.names state.keys
  pub sums : AreSumsIn state.names state.keys state.sums (merged texts)
  pub few_names : length state.names ≤ length texts * 2 ^ 28
  pub few_keys : length state.keys ≤ length texts * 2 ^ 28

-- Another text can be read: there are fewer than 2^31 names and keys of those that were summed.
abbrev pub HasRoom : State → Type 0
HasRoom state = (texts : List (ℕ × List ℕ)) × IsMergeOf state texts × (length texts * 2 ^ 28 < 2 ^ 31)
