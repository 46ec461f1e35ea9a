-- The ranges of a range list, by where its entries stand.
use Rattle.std.specs.Prelude.{◌≡◌, ℕ, List, [], take, slice_get, length, Option, None, unwrap_or}
use Rattle.std.specs.List.{filter_map, flat_map, last_or, range_with_len}
use Rattle.std.specs.Option.{option_map_or}
use Rattle.std.specs.Result.{result_ok}
use Rattle.range_model.specs.Entries.{Entry, sets_base}
use Rattle.range_model.specs.Lists.{Placed, Resolves, ranges_from, ranges_of_entry}

-- The address that an entry makes the base.
abbrev pub base_of : Resolves → Entry → Option ℕ
base_of resolve (sets_base value) = result_ok (resolve value)
base_of resolve _ = None

-- The base behind some entries: the last address that one of them made the base, or the unit's base address.
abbrev pub last_base : Resolves → ℕ → List Placed → ℕ
last_base resolve base entries =
    unwrap_or (last_or None (filter_map (λ placed. base_of resolve placed.entry) entries)) base

-- What the entry at an index of a list means, counted from the base behind the entries before it.
abbrev pub ranges_at : Resolves → ℕ → List Placed → ℕ → List (ℕ × ℕ)
ranges_at resolve base entries i =
    option_map_or (λ placed. ranges_of_entry resolve (last_base resolve base (take i entries)) placed.entry)
    (slice_get entries i) []

-- The ranges of a list are those of its entries, one behind the other.
abbrev pub RangesAreByEntry : Type 0
RangesAreByEntry =
    (resolve : Resolves) (base : ℕ) (entries : List Placed)
    → ranges_from resolve base entries
    ≡ flat_map (ranges_at resolve base entries) (range_with_len 0 (length entries))
