-- Segments of a program, and the counts of keys that they give.
use Rattle.std.specs.Prelude.{◌≡◌, ◌⊎◌, ◌<◌, ◌≤◌, ℕ, ◌*◌, List, [], ◌∷◌, length, slice_index}
use Rattle.std.specs.List.{AllByRecursion}
use Rattle.key_types.specs.declared.places.Seg.{Seg}

-- All keys of segments are among so many, and all factors are below 4,096.
abbrev pub AllFit : ℕ → List Seg → Type 0
AllFit keys [] = Unit {0}
AllFit keys (seg ∷ segments) = (seg.key.0 < keys) × (seg.factor < 4096) × AllFit keys segments

-- A segment holds an address, has a key, and gives it so much there.
pub record Attains (hits : ℕ → ℕ) (key count : ℕ) (seg : Seg) : Type 0 where
  pub at : ℕ
  pub from : seg.lo ≤ at
  pub below : at < seg.hi
  pub key_is : seg.key.0 ≡ key
  pub count_is : hits at * seg.factor ≡ count

-- A segment gives a key no more than a count.
abbrev pub GivesNoMore : (ℕ → ℕ) → ℕ → ℕ → Seg → Type 0
GivesNoMore hits key count seg =
    (a : ℕ) → seg.lo ≤ a → a < seg.hi → seg.key.0 ≡ key → hits a * seg.factor ≤ count

-- One segment is such.
abbrev pub OneIs : (Seg → Type 0) → List Seg → Type 0
OneIs P [] = ⊥
OneIs P (seg ∷ segments) = P seg ⊎ OneIs P segments

-- The count of a key is the largest that a segment gives it, and 0 where none does.
pub record IsSegmentCount (segments : List Seg) (hits : ℕ → ℕ) (key count : ℕ) : Type 0 where
  pub attained : (count ≡ 0) ⊎ OneIs (Attains hits key count) segments
  pub largest : AllByRecursion (GivesNoMore hits key count) segments

-- The counts of all keys, each at its number.
abbrev pub AreCounts : List Seg → (ℕ → ℕ) → List ℕ → Type 0
AreCounts segments hits counts =
    (key : ℕ) → key < length counts → IsSegmentCount segments hits key (slice_index counts key)
