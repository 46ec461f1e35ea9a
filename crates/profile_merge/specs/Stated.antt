-- Sums as calls and heads that are stated.
use Rattle.std.specs.Prelude.{ℕ, List, map, length, slice_index}
use Rattle.std.specs.List.{range_with_len}
use Rattle.profile_lists.specs.declared.pairs.Call.{Call}
use Rattle.profile_tree.specs.declared.head.Head.{Head}
use Rattle.profile_merge.specs.Called.{Target}

-- The sum of a function, as its head.
abbrev pub head_at : List ℕ → ℕ → Head
head_at sums id = record { name = record { 0 = id }; times = slice_index sums id }

-- The sum of a key and a callee, as calls.
abbrev pub call_of : Target × ℕ → Call
call_of sum = record { key = sum.0.0; callee = sum.0.1; times = sum.1 }

abbrev pub heads_at : List ℕ → List Head
heads_at sums = map (head_at sums) (range_with_len 0 (length sums))
