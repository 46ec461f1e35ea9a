-- Segments, and what they tell of an address.
use Rattle.std.specs.Prelude.{◌≡◌, ℕ, ◌<◌, ◌≤◌, List, length, map, Contains, find, slice_get, Option, Some, IsSome, option_and_then}
use Rattle.std.specs.Option.{option_map}
use Rattle.std.specs.List.{AllByRecursion}
use Rattle.address_spans.specs.declared.span.Span.{Span}
use Rattle.address_spans.specs.Spans.{holds, AreBetween, AreDisjoint}
use Rattle.key_types.specs.declared.ids.KeyId.{KeyId}
use Rattle.key_types.specs.declared.key.Key.{Key}
use Rattle.key_types.specs.declared.places.Seg.{Seg}

-- The addresses of a segment, owned by its key.
abbrev pub span_of : Seg → Span
span_of segment = record { lo = segment.lo; hi = segment.hi; owner = segment.key.0 }

-- The segments ascend, none is empty, and no two of them hold one address.
abbrev pub AreSegments : List Seg → Type 0
AreSegments segments = AreDisjoint (map span_of segments)

-- The segment that holds an address.
abbrev pub segment_at : List Seg → ℕ → Option Seg
segment_at segments address = find (λ segment. holds address (span_of segment)) segments

-- The number of the key of the segment that holds an address.
abbrev pub key_told : List Seg → ℕ → Option KeyId
key_told segments address = option_map (λ segment. segment.key) (segment_at segments address)

-- The key and the factor of a segment, where its key is among numbered keys.
abbrev pub key_and_factor : List Key → Seg → Option (Key × ℕ)
key_and_factor keys segment = option_map (λ key. (key, segment.factor)) (slice_get keys segment.key.0)

-- The key and the factor of an address, as segments tell them.
abbrev pub told : List Key → List Seg → ℕ → Option (Key × ℕ)
told keys segments address = option_and_then (key_and_factor keys) (segment_at segments address)

-- Keys keep their numbers when more are added.
abbrev pub Kept : List Key → List Key → Type 0
Kept keys more = (n : ℕ) (key : Key) → slice_get keys n ≡ Some key → slice_get more n ≡ Some key

-- The number of a segment's key is that of a key.
abbrev pub IsGiven : List Key → Seg → Type 0
IsGiven keys segment = IsSome (slice_get keys segment.key.0)

-- One of the segments has the key of this number.
abbrev pub HasSegment : List Seg → ℕ → Type 0
HasSegment segments n = Contains (map (λ segment. segment.key.0) segments) n

-- Each key from a number on has a segment.
abbrev pub HaveSegments : ℕ → List Key → List Seg → Type 0
HaveSegments first keys segments = (n : ℕ) → first ≤ n → n < length keys → HasSegment segments n

-- Segments tell the keys and factors of all addresses below a bound, also when more keys are added.
pub record TellBelow (bound : ℕ) (keys : List Key) (wanted : ℕ → Option (Key × ℕ)) (segments : List Seg) : Type 0 where
  pub ascend : AreBetween 0 bound (map span_of segments)
  pub given : AllByRecursion (IsGiven keys) segments
  pub tell : (more : List Key) → Kept keys more → (a : ℕ) → a < bound → told more segments a ≡ wanted a
