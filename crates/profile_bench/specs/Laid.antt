-- Segments that were laid one behind the other.
use Rattle.std.specs.Prelude.{ℕ, List, All, length, map}
use Rattle.address_spans.specs.Spans.{AreBetween}
use Rattle.profile_lists.specs.Segments.{AllFit}
use Rattle.key_types.specs.Segments.{span_of}
use Rattle.key_types.specs.Numbers.{IsNumbered}
use Rattle.key_types.specs.declared.key.Key.{Key}
use Rattle.key_types.specs.declared.places.Seg.{Seg}
use Rattle.profile_tree.specs.Known.{HasNames}

-- Keys and their segments, up to an address, where so many names were given.
pub record AreLaid (names end : ℕ) (keys : List Key) (segments : List Seg) : Type 0 where
  pub numbered : IsNumbered keys
  pub named : All (HasNames names) keys
  pub fit : AllFit (length keys) segments
  pub lie : AreBetween 0 end (map span_of segments)
