-- What loads hold, as spans of addresses.
use Rattle.std.specs.Prelude.{◌≡◌, ℕ, ◌+◌, ◌-◌, ◌^◌, ◌<◌, List, [], ◌∷◌, ◌++◌, length, min, slice_get, Option, option_and_then}
use Rattle.address_spans.specs.declared.span.Span.{Span}
use Rattle.address_spans.specs.Spans.{AreDisjoint, owner_at}
use Rattle.sample_model.specs.declared.load.Load.{Load}
use Rattle.sample_model.specs.Moves.{last_load}

-- What the load at a place holds. A span has an end, so the last address is in none.
abbrev pub span_of : ℕ → Load → Span
span_of place load = record { lo = load.start; hi = min (load.start + load.len) (2 ^ 64 - 1); owner = place }

-- What loads hold that are listed newest first, each with its place, the oldest at `first`.
abbrev pub newest_first : ℕ → List Load → List Span
newest_first first [] = []
newest_first first (load ∷ older) = span_of (first + length older) load ∷ newest_first first older

-- Spans tell by place which of some loads is the last that holds an address, also when more come behind these, and
-- `top` is the last that holds the last address.
pub record IsSpanned (loads : List Load) (spans : List Span) (top : Option Load) : Type 0 where
  pub disjoint : AreDisjoint spans
  pub told : (more : List Load) (address : ℕ) → address < 2 ^ 64 - 1
      → last_load loads address ≡ option_and_then (slice_get (loads ++ more)) (owner_at spans address)
  pub last : top ≡ last_load loads (2 ^ 64 - 1)
