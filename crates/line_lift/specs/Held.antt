-- The counts of the addresses of keys.
use Rattle.std.specs.Prelude.{◌≡◌, ℕ, ◌<◌, ◌≤◌, List, Option, Some}
use Rattle.std.specs.List.{AllByRecursion}
use Rattle.key_types.specs.declared.ids.KeyId.{KeyId}
use Rattle.key_types.specs.declared.places.Seg.{Seg}

-- The keys of segments are among so many.
abbrev pub HaveKeys : ℕ → List Seg → Type 0
HaveKeys keys segments = AllByRecursion (λ segment. segment.key.0 < keys) segments

-- A count of an address from `lo` on and below `hi`.
abbrev pub IsCountIn : (ℕ → Option ℕ) → ℕ → ℕ → ℕ → Type 0
IsCountIn count lo hi n = (address : ℕ) × (lo ≤ address) × (address < hi) × (count address ≡ Some n)

-- A count of an address with this key.
abbrev pub IsCountOfKey : (ℕ → Option KeyId) → (ℕ → Option ℕ) → ℕ → ℕ → Type 0
IsCountOfKey key count id n = (address : ℕ) × (key address ≡ Some (record { 0 = id })) × (count address ≡ Some n)
