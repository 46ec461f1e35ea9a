-- Segments by their places, and the keys that they tell.
use Rattle.std.proofs.Common.{◌≡◌, ℕ, zero, suc, ◌-◌, ◌^◌, ◌<◌, ◌≤◌, nat_le, nat_lt, ◌&&◌, true, List, [], ◌∷◌, Some, refl, sym, ap, ◌∙◌, arith, inl, inr, length, get_or, map}
use Rattle.std.specs.List.Sorted.{IsNonDecreasingBy}
use Rattle.std.proofs.lemmas.Bool.{cases_lt}
use Rattle.list_lemmas.proofs.Tests.{by_test}
use Rattle.address_spans.specs.Spans.{AreBetween, holds}
use Rattle.address_spans.proofs.SpanLemmas.{held, missed-behind}
use Rattle.key_types.specs.declared.ids.KeyId.{KeyId}
use Rattle.key_types.specs.declared.places.Seg.{Seg}
use Rattle.key_types.specs.Segments.{AreSegments, key_told, span_of}

-- behind all segments nothing begins below the end of all addresses
abbrev pub no_segment : Seg
no_segment = record { lo = 2 ^ 64; hi = 2 ^ 64; key = record { 0 = 0 }; factor = 1 }

starts_from : (from to : ℕ) (xs : List Seg) → AreBetween from to (map span_of xs) → (j : ℕ) (d : Seg) → j < length xs → from ≤ (get_or xs j d).lo
starts_from from to [] between j d within = absurd (omega (arith, within))
starts_from from to (x ∷ xs) between zero d within = between.0
starts_from from to (x ∷ xs) between (suc j) d within =
    omega (arith, between.0, between.1, starts_from x.hi to xs between.2 j d (omega (arith, within)))

-- each segment ends where or before those behind it begin
pub ends_before : (from to : ℕ) (xs : List Seg) → AreBetween from to (map span_of xs) → (i j : ℕ) (d : Seg) → i < j → j < length xs → (get_or xs i d).hi ≤ (get_or xs j d).lo
ends_before from to [] between i j d before within = absurd (omega (arith, within))
ends_before from to (x ∷ xs) between i zero d before within = absurd (omega (arith, before))
ends_before from to (x ∷ xs) between zero (suc j) d before within = starts_from x.hi to xs between.2 j d (omega (arith, within))
ends_before from to (x ∷ xs) between (suc i) (suc j) d before within = ends_before x.hi to xs between.2 i j d (omega (arith, before)) (omega (arith, within))

pub filled : (from to : ℕ) (xs : List Seg) → AreBetween from to (map span_of xs) → (j : ℕ) (d : Seg) → j < length xs → (get_or xs j d).lo < (get_or xs j d).hi
filled from to [] between j d within = absurd (omega (arith, within))
filled from to (x ∷ xs) between zero d within = between.1
filled from to (x ∷ xs) between (suc j) d within = filled x.hi to xs between.2 j d (omega (arith, within))

-- an address in a segment has its key
key_from : (from to : ℕ) (xs : List Seg) (n a : ℕ) → AreBetween from to (map span_of xs) → n < length xs → (get_or xs n no_segment).lo ≤ a → a < (get_or xs n no_segment).hi → key_told xs a ≡ Some (get_or xs n no_segment).key
key_from from to [] n a between within low high = absurd (omega (arith, within))
key_from from to (x ∷ xs) zero a between within low high = rw (held (span_of x) a low high) refl
key_from from to (x ∷ xs) (suc n) a between within low high =
    rw (missed-behind (span_of x) a (omega (arith, low, starts_from x.hi to xs between.2 n no_segment (omega (arith, within)))))
    (key_from x.hi to xs n a between.2 (omega (arith, within)) low high)

pub key_in : (xs : List Seg) (n a : ℕ) → AreSegments xs → n < length xs → (get_or xs n no_segment).lo ≤ a → a < (get_or xs n no_segment).hi → key_told xs a ≡ Some (get_or xs n no_segment).key
key_in xs n a are within low high = key_from 0 (2 ^ 64 - 1) xs n a are within low high

-- an address with a key lies in a segment of that key
pub holder : (xs : List Seg) (a : ℕ) (key : KeyId) → key_told xs a ≡ Some key
    → (n : ℕ) × (n < length xs) × ((get_or xs n no_segment).lo ≤ a) × (a < (get_or xs n no_segment).hi) × ((get_or xs n no_segment).key ≡ key)
holder [] a key told = absurd cc
holder (x ∷ xs) a key told = by_test (holds a (span_of x))
    (λ hit.
    let here : key_told (x ∷ xs) a ≡ Some x.key = rw hit refl in
    let same : x.key ≡ key = cc in
    let both = bounds_held x.lo x.hi a hit in
    (0, omega arith, both.0, both.1, same))
    (λ miss.
    let there : key_told (x ∷ xs) a ≡ key_told xs a = rw miss refl in
    let more = holder xs a key (sym there ∙ told) in
    (suc more.0, omega (arith, more.1), more.2, more.3, more.4))
  where
    bounds_held : (lo hi a : ℕ) → (nat_le lo a && nat_lt a hi) ≡ true → (lo ≤ a) × (a < hi)
    bounds_held lo hi a held = (grind arith, grind arith)

-- segments begin where or behind those before them
pub starts-rise : (xs : List Seg) → AreSegments xs → IsNonDecreasingBy (λ segment. segment.lo) xs
starts-rise xs are i j d before within = elim (cases_lt i j) [
  | inl less ↦ omega (arith, ends_before 0 (2 ^ 64 - 1) xs are i j d less within, filled 0 (2 ^ 64 - 1) xs are i d (omega (arith, less, within)))
  | inr not ↦ let same : i ≡ j = omega (arith, not, before) in omega (arith, ap (λ (n : ℕ). (get_or xs n d).lo) same)
]
