-- The definitions on worked values.
use Rattle.std.proofs.Common.{◌≡◌, ℕ, List, [], ◌∷◌, refl, Some, None}
use Rattle.address_spans.specs.declared.span.Span.{Span}
use Rattle.address_spans.specs.Spans.{owner_at}
use Rattle.load_model.specs.declared.load_segment.LoadSegment.{LoadSegment}
use Rattle.load_index.specs.Offsets.{far_from, spans_from}

span : ℕ → ℕ → ℕ → Span
span lo hi owner = record { lo = lo; hi = hi; owner = owner }

-- One segment in the midst of a file, and one that begins with the last offset but one of 64 bits.
segments : List LoadSegment
segments = record { offset = 0x1000; vaddr = 0x401000; size = 0x1000 } ∷ record { offset = 0xfffffffffffffffe; vaddr = 0; size = 4 } ∷ []

near : spans_from 0 0 segments ≡ span 0x1000 0x2000 0 ∷ span 0xfffffffffffffffe 0xffffffffffffffff 1 ∷ []
unfolding segments span
near = refl

far : spans_from far_from 0 segments ≡ span 0 0 0 ∷ span 0 3 1 ∷ []
unfolding segments span
far = refl

owners : (owner_at (spans_from far_from 0 segments) 2 ≡ Some 1) × (owner_at (spans_from far_from 0 segments) 3 ≡ None)
unfolding segments
owners = (refl, refl)
