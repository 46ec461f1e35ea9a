-- One disjoint list laid over another.
use Rattle.std.specs.Prelude.{◌≡◌, ℕ, ◌-◌, ◌^◌, ◌≤◌, nat_lt, List, [], ◌∷◌, ◌++◌, min, max, if◌then◌else◌}
use Rattle.std.specs.List.{AllByRecursion, flat_map}
use Rattle.address_spans.specs.declared.span.Span.{Span}

-- What of a span lies between two addresses.
abbrev pub clipped : ℕ → ℕ → Span → List Span
clipped from to span =
    if nat_lt (max span.lo from) (min span.hi to)
    then record { lo = max span.lo from; hi = min span.hi to; owner = span.owner } ∷ []
    else []

-- What of some spans lies between two addresses.
abbrev pub clipped_all : ℕ → ℕ → List Span → List Span
clipped_all from to spans = flat_map (clipped from to) spans

-- The spans above, and in the gaps between them, from an address on, what of those below lies there.
abbrev pub overlaid : ℕ → List Span → List Span → List Span
overlaid from [] below = clipped_all from (2 ^ 64 - 1) below
overlaid from (span ∷ above) below = clipped_all from span.lo below ++ span ∷ overlaid span.hi above below

-- What of some spans lies in frames.
abbrev pub held_in : List Span → List Span → List Span
held_in frames inner = flat_map (λ frame. clipped_all frame.lo frame.hi inner) frames

-- Of some spans those are left that do not end at or before an address, and perhaps some that do.
pub record IsLeft (to : ℕ) (spans left : List Span) : Type 0 where
  pub passed : List Span
  pub joined : spans ≡ passed ++ left
  pub ended : AllByRecursion (λ span. span.hi ≤ to) passed
