-- Segments as a map of places, and the law that ties their counts to it.
use Rattle.std.specs.Prelude.{ℕ, List, Option, unwrap_or}
use Rattle.std.specs.Option.{option_map}
use Rattle.key_types.specs.declared.places.Seg.{Seg}
use Rattle.key_types.specs.Segments.{AreSegments, segment_at}
use Rattle.profile_model.specs.Counts.{IsCount}
use Rattle.profile_lists.specs.Segments.{IsSegmentCount}

-- The number of the key that segments give an address.
abbrev pub place_by : List Seg → ℕ → Option ℕ
place_by segments a = option_map (λ seg. seg.key.0) (segment_at segments a)

-- The factor that segments give an address, and 1 where none holds it.
abbrev pub factor_by : List Seg → ℕ → ℕ
factor_by segments a = unwrap_or (option_map (λ seg. seg.factor) (segment_at segments a)) 1

-- The count of a key over segments is that over all addresses.
abbrev pub CountsAreThoseOfPlaces : Type 0
CountsAreThoseOfPlaces =
    (segments : List Seg) (hits : ℕ → ℕ) (key count : ℕ) → AreSegments segments
    → IsSegmentCount segments hits key count → IsCount (place_by segments) hits (factor_by segments) key count
