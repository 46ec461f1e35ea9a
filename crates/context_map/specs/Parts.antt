-- The parts of a span of addresses, and what segments tell of them.
use Rattle.std.specs.Prelude.{◌≡◌, ℕ, ◌≤◌, ◌<◌, Bool, List, [], ◌∷◌, Option, Some, None, unwrap_or, if◌then◌else◌}
use Rattle.std.specs.Option.{option_map}
use Rattle.key_types.specs.Discriminators as packed
use Rattle.key_types.specs.declared.key.Key.{Key}
use Rattle.key_types.specs.declared.places.Seg.{Seg}
use Rattle.row_table.specs.declared.row_data.RowData.{RowData}
use Rattle.chain_model.specs.Places.{Place, has_key, LineAndDisc}
use Rattle.context_map.specs.declared.named.NamedPath.{NamedPath}
use Rattle.context_map.specs.Contexts.{place_in}
use Rattle.key_types.specs.Segments.{HaveSegments, TellBelow}

-- Line and discriminator of a row.
abbrev pub line_and_disc : RowData → LineAndDisc
line_and_disc row = (row.line, row.disc)

-- How often the code at an address with this row was copied, and 1 where that is not asked or there is no row.
abbrev pub factor_of : Bool → Option LineAndDisc → ℕ
factor_of base row = unwrap_or (option_map (λ row. if base then packed.factor row.1 else 1) row) 1

-- The key and the factor of a place that has a key.
abbrev pub with_factor : Place → ℕ → Option (Key × ℕ)
with_factor (has_key key) factor = Some (key, factor)
with_factor _ factor = None

-- The key and the factor that names and a row give.
abbrev pub shown : Bool → Option NamedPath → Option LineAndDisc → Option (Key × ℕ)
shown base named row = with_factor (place_in base named row) (factor_of base row)

-- An answer does not change from an address up to a bound.
abbrev pub IsSame : {X : Type 0} → (ℕ → X) → ℕ → ℕ → Type 0
IsSame answer lo hi = (address : ℕ) → lo ≤ address → address < hi → answer address ≡ answer lo

-- Cuts between an address and a bound: an answer does not change from the address up to the first of them, from each up
-- to the next, and from the last up to the bound.
abbrev pub IsCutUp : {X : Type 0} → (ℕ → X) → ℕ → ℕ → List ℕ → Type 0
IsCutUp answer lo hi [] = (lo < hi) × IsSame answer lo hi
IsCutUp answer lo hi (cut ∷ cuts) = (lo < cut) × IsSame answer lo cut × IsCutUp answer cut hi cuts

-- Segments that tell the keys and factors below an address are made such that tell them below a bound, where those
-- between are as shown.
abbrev pub Extends : ℕ → ℕ → (ℕ → Option (Key × ℕ)) → List Key → List Key → List Seg → List Seg → Type 0
Extends lo hi show keys more segments longer = (wanted : ℕ → Option (Key × ℕ))
    → TellBelow lo keys wanted segments → ((address : ℕ) → lo ≤ address → address < hi → wanted address ≡ show address)
    → TellBelow hi more wanted longer

-- Where each key from a number on had a segment, each has one after keys and segments were added.
abbrev pub KeepUp : List Key → List Key → List Seg → List Seg → Type 0
KeepUp keys more segments longer = (first : ℕ) → HaveSegments first keys segments → HaveSegments first more longer
