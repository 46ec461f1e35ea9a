-- The functions that stand in a profile, and their keys, by numbers.
use Rattle.std.specs.Prelude.{ℕ, ◌==◌, Bool, false, ◌&&◌, ◌||◌, List, filter, length, map, slice_get, slice_index_or, Option, None, Some}
use Rattle.std.specs.List.{list_any, range_with_len}
use Rattle.key_types.specs.declared.key.Key.{Key}
use Rattle.profile_lists.specs.Pairs.{was_made}
use Rattle.profile_lists.specs.declared.pairs.Call.{Call}
use Rattle.profile_model.specs.Ways.{Way}
use Rattle.profile_tree.specs.Items.{has_count, was_entered}
use Rattle.profile_tree.specs.Said.{way_at}
use Rattle.profile_tree.specs.declared.head.Head.{Head}

-- The ways of the first keys.
abbrev pub first_ways : List (List ℕ) → List Key → ℕ → List Way
first_ways names keys known = map (way_at names keys) (range_with_len 0 known)

-- The number of the function of a key; one that was not given has none, which is told as 0.
abbrev pub root_of_given : Option Key → ℕ
root_of_given None = 0
root_of_given (Some key) = key.root.0

abbrev pub root_at : List Key → ℕ → ℕ
root_at keys id = root_of_given (slice_get keys id)

-- One of the first keys of a function has a count.
abbrev pub counted_below : List Key → List ℕ → ℕ → ℕ → Bool
counted_below keys counts n name =
    list_any (λ id. has_count counts id && (name == root_at keys id)) (range_with_len 0 n)

abbrev pub is_counted : List Key → List ℕ → ℕ → Bool
is_counted keys counts name = counted_below keys counts (length keys) name

-- One of its keys has a target.
abbrev pub is_called_from : List Key → List Call → ℕ → Bool
is_called_from keys calls name = list_any (λ call. was_made call && (name == root_at keys call.key.0)) calls

-- One of its keys has a count or a target.
abbrev pub is_told : List Key → List ℕ → List Call → ℕ → Bool
is_told keys counts calls name = is_counted keys counts name || is_called_from keys calls name

-- It was entered.
abbrev pub is_entered : List Head → ℕ → Bool
is_entered heads name = list_any (λ head. was_entered head && (name == head.name.0)) heads

-- A function stands in the profile of some numbers.
abbrev pub stands : List Key → List ℕ → List Call → List Head → ℕ → Bool
stands keys counts calls heads name = is_told keys counts calls name || is_entered heads name

-- The function of a key has a mark.
abbrev pub has_mark : List Key → List Bool → ℕ → Bool
has_mark keys marks id = slice_index_or marks (root_at keys id) false

-- Those of the first keys whose functions stand there.
abbrev pub standing_ids : List Key → List ℕ → List Call → List Head → ℕ → List ℕ
standing_ids keys counts calls heads known =
    filter (λ id. stands keys counts calls heads (root_at keys id)) (range_with_len 0 known)
