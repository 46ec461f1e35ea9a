-- Ranges of addresses, each with an owner, of which the first one counts.
use Rattle.std.specs.Prelude.{ℕ, ◌-◌, ◌^◌, ◌<◌, ◌≤◌, Bool, ◌&&◌, nat_lt, nat_le, List, [], ◌∷◌, find, Option, None, Some, unwrap_or}
use Rattle.std.specs.Option.{option_map}
use Rattle.address_spans.specs.declared.span.Span.{Span}

-- A span holds the addresses from `lo` on that are below `hi`.
abbrev pub holds : ℕ → Span → Bool
holds address span = nat_le span.lo address && nat_lt address span.hi

-- The owner of the first span in the list that holds an address.
abbrev pub owner_at : List Span → ℕ → Option ℕ
owner_at spans address = option_map (λ span. span.owner) (find (holds address) spans)

-- Where a frame holds an address, the owner is that of what lies in it there, or else the frame's.
abbrev pub framed_owner : Option ℕ → Option ℕ → Option ℕ
framed_owner None inner = None
framed_owner (Some frame) inner = Some (unwrap_or inner frame)

-- The spans lie between two addresses, one behind the other, and none is empty.
abbrev pub AreBetween : ℕ → ℕ → List Span → Type 0
AreBetween from to [] = from ≤ to
AreBetween from to (span ∷ spans) = (from ≤ span.lo) × (span.lo < span.hi) × AreBetween span.hi to spans

-- The spans ascend, and no two of them hold one address.
abbrev pub AreDisjoint : List Span → Type 0
AreDisjoint spans = AreBetween 0 (2 ^ 64 - 1) spans
