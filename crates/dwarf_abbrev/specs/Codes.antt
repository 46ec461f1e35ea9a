-- The place of a code among others.
use Rattle.std.specs.Prelude.{◌≡◌, ℕ, ◌-◌, Bool, ◌==◌, if◌then◌else◌, List, Option, Some, position, slice_index, nat_lt, ◌&&◌, length}
use Rattle.std.specs.Ordering.{nat_cmp}
use Rattle.std.specs.BTreeMap.{get, BTreeMap}

-- A code stands in its order: 1 is the first, 2 the second, and so on.
abbrev pub in_order : List ℕ → ℕ → Bool
in_order codes code = nat_lt 0 code && nat_lt (code - 1) (length codes) && slice_index codes (code - 1) == code

-- The place of a code.
abbrev pub place_of : List ℕ → ℕ → Option ℕ
place_of codes code = position (λ c. c == code) codes

-- The map has the places of the codes that do not stand in their order.
pub record IsIndex (codes : List ℕ) (others : BTreeMap ℕ ℕ) : Type 0 where
  pub places : (code : ℕ) → place_of codes code
      ≡ (if in_order codes code then Some (code - 1) else get nat_cmp others code)
