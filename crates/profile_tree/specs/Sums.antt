-- Sums of each function and of each call.
use Rattle.std.specs.Prelude.{◌≡◌, ◌<◌, ℕ, ◌==◌, ◌&&◌, List, length, cond, slice_get, slice_index, sum_by, Option, None, Some}
use Rattle.std.specs.List.{range_with_len}
use Rattle.key_types.specs.declared.key.Key.{Key}
use Rattle.profile_model.specs.Profile.{capped}
use Rattle.profile_tree.specs.declared.head.Head.{Head}
use Rattle.profile_tree.specs.declared.key_count.KeyCount.{KeyCount}
use Rattle.profile_lists.specs.declared.pairs.Call.{Call}

-- The count of a key, as some counts state it: 0 where none does.
abbrev pub count_stated : List KeyCount → ℕ → ℕ
count_stated counts key = sum_by (λ count. cond (count.key.0 == key) count.times 0) counts

-- How often a function was entered.
abbrev pub entries_of : List Head → ℕ → ℕ
entries_of heads name = sum_by (λ head. cond (head.name.0 == name) head.times 0) heads

-- How often a function was called from a key.
abbrev pub calls_of : List Call → ℕ → ℕ → ℕ
calls_of calls key callee = sum_by (λ call. cond (call.key.0 == key && call.callee.0 == callee) call.times 0) calls

-- A list with a number for each of so many.
pub record AreEach (n : ℕ) (number : ℕ → ℕ) (numbers : List ℕ) : Type 0 where
  pub len : length numbers ≡ n
  pub each : (id : ℕ) → id < n → slice_index numbers id ≡ number id

-- What a key adds to a function.
abbrev pub share : ℕ → ℕ → Option Key → ℕ
share name count None = 0
share name count (Some key) = cond (key.root.0 == name) count 0

-- The counts of the first keys of a function, added up.
abbrev pub counts_below : List Key → List ℕ → ℕ → ℕ → ℕ
counts_below keys counts n name =
    sum_by (λ id. share name (slice_index counts id) (slice_get keys id)) (range_with_len 0 n)

-- The total of a function.
abbrev pub root_total : List Key → List ℕ → ℕ → ℕ
root_total keys counts name = capped (counts_below keys counts (length keys) name)
