-- What segments have of their program's file, as spans of offsets.
use Rattle.std.specs.Prelude.{◌≡◌, ℕ, ◌+◌, ◌-◌, ◌*◌, ◌^◌, ◌<◌, ◌≤◌, List, [], ◌∷◌, find, min, slice_get, option_and_then}
use Rattle.std.specs.List.{AllByRecursion}
use Rattle.address_spans.specs.declared.span.Span.{Span}
use Rattle.address_spans.specs.Spans.{AreDisjoint, owner_at}
use Rattle.load_model.specs.declared.load_segment.LoadSegment.{LoadSegment}
use Rattle.load_model.specs.Segments.{has_offset}

-- Offsets from here on are far: no span holds one, since a span has an end.
abbrev pub far_from : ℕ
far_from = 2 ^ 64 - 1

-- What the segment at a place has of the offsets from a base on, counted from there. Those that are far behind the base
-- are left out.
abbrev pub span_from : ℕ → ℕ → LoadSegment → Span
span_from base place segment =
    record { lo = segment.offset - base; hi = min (segment.offset + segment.size - base) far_from; owner = place }

-- What segments have, each with its place, from a first place on.
abbrev pub spans_from : ℕ → ℕ → List LoadSegment → List Span
spans_from base place [] = []
spans_from base place (segment ∷ segments) = span_from base place segment ∷ spans_from base (place + 1) segments

-- Spans tell by place which of some segments is the first that has an offset, counted from a base.
pub record TellFirst (base : ℕ) (segments : List LoadSegment) (spans : List Span) : Type 0 where
  pub disjoint : AreDisjoint spans
  pub told : (offset : ℕ) → base ≤ offset → offset < base + far_from
      → find (has_offset offset) segments ≡ option_and_then (slice_get segments) (owner_at spans (offset - base))

-- No segment has an offset that is far behind the first far one.
abbrev pub EndInTime : List LoadSegment → Type 0
EndInTime segments = AllByRecursion (λ segment. segment.offset + segment.size ≤ 2 * far_from) segments
