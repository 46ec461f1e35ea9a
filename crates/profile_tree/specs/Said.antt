-- What was counted, as a profile says it.
use Rattle.std.specs.Prelude.{◌<◌, ℕ, List, map, length, slice_index}
use Rattle.std.specs.List.{range_with_len}
use Rattle.profile_lists.specs.Laws.{factor_by, place_by}
use Rattle.key_types.specs.declared.ids.KeyId.{KeyId}
use Rattle.key_types.specs.declared.key.Key.{Key}
use Rattle.key_types.specs.declared.places.Seg.{Seg}
use Rattle.profile_model.specs.Counts.{IsCount}
use Rattle.profile_model.specs.Profile.{Profile}
use Rattle.profile_model.specs.Ways.{Way}
use Rattle.profile_tree.specs.Steps.{name_at, named, steps_at}
use Rattle.profile_tree.specs.declared.head.Head.{Head}
use Rattle.profile_tree.specs.declared.key_count.KeyCount.{KeyCount}
use Rattle.profile_lists.specs.declared.pairs.Call.{Call}

-- The way of the key of a number.
abbrev pub way_at : List (List ℕ) → List Key → ℕ → Way
way_at names keys id = map (named names) (steps_at keys id)

-- The ways of keys.
abbrev pub ways_said : List (List ℕ) → List Key → List KeyId → List Way
ways_said names keys ids = map (λ key. way_at names keys key.0) ids

-- Each call by the way of the key and the name of the function.
abbrev pub calls_said : List (List ℕ) → List Key → List Call → List (Way × List ℕ × ℕ)
calls_said names keys calls =
    map (λ call. (way_at names keys call.key.0, name_at names call.callee.0, call.times)) calls

-- Each entry by the name of the function.
abbrev pub heads_said : List (List ℕ) → List Head → List (List ℕ × ℕ)
heads_said names heads = map (λ head. (name_at names head.name.0, head.times)) heads

-- What was counted, with the count of each key by its way.
abbrev pub said : List (List ℕ) → List Key → List ℕ → List Call → List Head → Profile
said names keys counts calls heads = record {
  counts = map (λ id. (way_at names keys id, slice_index counts id)) (range_with_len 0 (length keys));
  calls = calls_said names keys calls;
  heads = heads_said names heads;
}

-- The same, where the counts of some keys are stated.
abbrev pub stated : List (List ℕ) → List Key → List KeyCount → List Call → List Head → Profile
stated names keys counts calls heads = record {
  counts = map (λ count. (way_at names keys count.key.0, count.times)) counts;
  calls = calls_said names keys calls;
  heads = heads_said names heads;
}

-- The counts of all keys, each at its number, where segments tell the place and the factor of an address.
abbrev pub AreCountsOfPlaces : List Seg → (ℕ → ℕ) → List ℕ → Type 0
AreCountsOfPlaces segments hits counts =
    (key : ℕ) → key < length counts
    → IsCount (place_by segments) hits (factor_by segments) key (slice_index counts key)
