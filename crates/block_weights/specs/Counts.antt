-- The counts of keys.
use Rattle.std.specs.Prelude.{ℕ, List, map, slice_index}
use Rattle.key_types.specs.declared.ids.KeyId.{KeyId}
use Rattle.key_types.specs.declared.places.Seg.{Seg}

-- A key's count stands at its number. Keys behind the end of the list count 0.
abbrev pub count_in : List ℕ → KeyId → ℕ
count_in counts key = slice_index counts key.0

-- The count of each segment's key.
abbrev pub counts_of : List ℕ → List Seg → List ℕ
counts_of counts segments = map (λ segment. count_in counts segment.key) segments

-- Segments, and the counts of keys.
pub record Counted : Type 0 where
  pub segments : List Seg
  pub counts : List ℕ
