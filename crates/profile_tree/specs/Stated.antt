-- Whose the numbers of keys, calls and heads are, and of what none stands twice.
use Rattle.std.specs.Prelude.{◌<◌, ℕ, List, length}
use Rattle.std.specs.List.{All}
use Rattle.key_types.specs.declared.key.Key.{Key}
use Rattle.profile_laws.specs.Once.{StandOnce}
use Rattle.profile_lists.specs.declared.pairs.Call.{Call}
use Rattle.profile_tree.specs.Known.{HasNames, IsGiven, called_from}
use Rattle.profile_tree.specs.declared.head.Head.{Head}
use Rattle.profile_tree.specs.declared.key_count.KeyCount.{KeyCount}

-- All names in keys, calls and heads are among so many, and all keys of calls among these keys.
pub record AreGiven (names : ℕ) (keys : List Key) (calls : List Call) (heads : List Head) : Type 0 where
  pub key_names : All (HasNames names) keys
  pub called : All (IsGiven (length keys) names) calls
  pub entered : All (λ head. head.name.0 < names) heads

-- The same, and no pair of a key and a callee stands twice in calls, and no function in heads.
pub record AreSummed (names : ℕ) (keys : List Key) (calls : List Call) (heads : List Head) : Type 0 where
  pub given : AreGiven names keys calls heads
  pub calls_once : StandOnce called_from calls
  pub heads_once : StandOnce (λ head. head.name.0) heads

-- The same, with counts of these keys, none of which has two.
pub record AreStated
    (names : ℕ) (keys : List Key) (counts : List KeyCount) (calls : List Call) (heads : List Head) : Type 0 where
  pub summed : AreSummed names keys calls heads
  pub counted : All (λ count. count.key.0 < length keys) counts
  pub counts_once : StandOnce (λ count. count.key.0) counts
