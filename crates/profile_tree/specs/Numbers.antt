-- The numbers of a profile: the count of each key, at its number, what was called from keys, and what was entered.
use Rattle.std.specs.Prelude.{◌≡◌, ◌<◌, ◌^◌, ℕ, List, length}
use Rattle.key_types.specs.declared.key.Key.{Key}
use Rattle.profile_lists.specs.declared.pairs.Call.{Call}
use Rattle.profile_model.specs.Profile.{Profile}
use Rattle.profile_tree.specs.Said.{said}
use Rattle.profile_tree.specs.Stated.{AreGiven}
use Rattle.profile_tree.specs.Sums.{calls_of, entries_of}
use Rattle.profile_tree.specs.declared.head.Head.{Head}
pub use Rattle.profile_laws.specs.Counts.{CountTheSame}

pub record Numbers : Type 0 where
  pub counts : List ℕ
  pub calls : List Call
  pub heads : List Head

-- How often one function was called from one key, and how often one function was entered, fits 64 bits.
pub record Fit (calls : List Call) (heads : List Head) : Type 0 where
  pub call_sums : (key callee : ℕ) → calls_of calls key callee < 2 ^ 64
  pub head_sums : (name : ℕ) → entries_of heads name < 2 ^ 64

-- They are of so many names and of these keys, each of which has a count.
pub record AreOf (names : ℕ) (keys : List Key) (numbers : Numbers) : Type 0 where
  pub len : length numbers.counts ≡ length keys
  pub given : AreGiven names keys numbers.calls numbers.heads

-- What they say was counted.
abbrev pub numbers_said : List (List ℕ) → List Key → Numbers → Profile
numbers_said names keys numbers = said names keys numbers.counts numbers.calls numbers.heads
