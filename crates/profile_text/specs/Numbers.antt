-- The numbers of a profile text, as counts, calls and heads.
use Rattle.std.specs.Prelude.{ℕ, ◌<◌, ⊤, List, length, map, Option, None, Some}
use Rattle.std.specs.List.{All, AllByRecursion}
use Rattle.key_types.specs.declared.key.Key.{Key}
use Rattle.profile_laws.specs.Once.{StandOnce}
use Rattle.profile_lists.specs.declared.pairs.Call.{Call}
use Rattle.profile_model.specs.Profile.{Profile}
use Rattle.profile_model.specs.Spelled.{profile_by}
use Rattle.profile_text.specs.Draft.{IsGivenItem, number_told}
use Rattle.profile_text.specs.declared.item.Item.{Item}
use Rattle.profile_text.specs.declared.item.What.{What}
use Rattle.profile_text.specs.declared.item.What.TheVariants.{Head, Count, Target}
use Rattle.profile_tree.specs.Known.{HasNames}
use Rattle.profile_tree.specs.declared.head.Head.{Head as Entries}
use Rattle.profile_tree.specs.declared.key_count.KeyCount.{KeyCount}
pub use Rattle.profile_tree.specs.Standing.{root_at, root_of_given}

-- Items are of so many names and of these keys, whose names are among those, and no two tell of the same.
pub record AreNumbersOf (names : ℕ) (keys : List Key) (items : List Item) : Type 0 where
  pub key_names : All (HasNames names) keys
  pub given : AllByRecursion (IsGivenItem names (length keys)) items
  pub once : StandOnce (λ item. item.what) items

-- A number that is the count of a key.
abbrev pub count_by : What → ℕ → Option KeyCount
count_by (Head name) times = None
count_by (Count key) times = Some (record { key = key; times = times })
count_by (Target key callee) times = None

abbrev pub count_in : Item → Option KeyCount
count_in item = count_by item.what item.times

-- A number that tells how often a function was called from a key.
abbrev pub call_by : What → ℕ → Option Call
call_by (Head name) times = None
call_by (Count key) times = None
call_by (Target key callee) times = Some (record { key = key; callee = callee; times = times })

abbrev pub call_in : Item → Option Call
call_in item = call_by item.what item.times

-- A number that tells how often a function was entered.
abbrev pub head_by : What → ℕ → Option Entries
head_by (Head name) times = Some (record { name = name; times = times })
head_by (Count key) times = None
head_by (Target key callee) times = None

abbrev pub head_in : Item → Option Entries
head_in item = head_by item.what item.times

-- The key of a number was given.
abbrev pub HasKey : ℕ → What → Type 0
HasKey keys (Head name) = ⊤
HasKey keys (Count key) = key.0 < keys
HasKey keys (Target key callee) = key.0 < keys

-- The function that a number is of.
abbrev pub root_of : List Key → What → ℕ
root_of keys (Head name) = name.0
root_of keys (Count key) = root_at keys key.0
root_of keys (Target key callee) = root_at keys key.0

-- What they say was counted.
abbrev pub counted : List (List ℕ) → List Key → List Item → Profile
counted names keys items = profile_by (map (number_told names keys) items)
