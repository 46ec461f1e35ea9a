-- The segment of an address, found by binary search.
use Rattle.std.proofs.Common.{◌≡◌, ℕ, zero, suc, ◌<◌, ◌≤◌, true, false, List, [], ◌∷◌, None, Some, refl, sym, ap, ◌∙◌, arith, length, get_or, map, leb, leb-true, leb-false}
use Rattle.std.specs.Option.{option_map}
use Rattle.std.specs.List.Sorted.{IsNonDecreasingBy, IsPartitionPoint}
use Rattle.list_lemmas.proofs.Tests.{by_test}
use Rattle.address_spans.specs.declared.span.Span.{Span}
use Rattle.address_spans.specs.Spans.{holds, owner_at}
use Rattle.address_spans.proofs.SearchLemmas.{ends-rise, IsFirstBehind, search-hit, search-miss, search-none}
use Rattle.key_types.specs.declared.places.Seg.{Seg}
use Rattle.key_types.specs.Segments.{span_of, AreSegments, key_told}

-- the key told is the owner of the span
pub key-owner : (segments : List Seg) (a : ℕ) → key_told segments a ≡ option_map (λ n. record { 0 = n }) (owner_at (map span_of segments) a)
key-owner [] a = refl
key-owner (s ∷ segments) a = by_test (holds a (span_of s))
    (λ hit. rw hit refl)
    (λ miss. rw miss (key-owner segments a))

length-spans : (segments : List Seg) → length (map span_of segments) ≡ length segments
length-spans [] = refl
length-spans (s ∷ segments) = ap suc (length-spans segments)

get_or-spans : (segments : List Seg) (k : ℕ) (d : Seg) → get_or (map span_of segments) k (span_of d) ≡ span_of (get_or segments k d)
get_or-spans [] k d = refl
get_or-spans (s ∷ segments) zero d = refl
get_or-spans (s ∷ segments) (suc k) d = get_or-spans segments k d

pub get_or-within : {X : Type 0} (xs : List X) (k : ℕ) (d e : X) → k < length xs → get_or xs k d ≡ get_or xs k e
get_or-within [] k d e within = absurd (omega (arith, within))
get_or-within (x ∷ xs) zero d e within = refl
get_or-within (x ∷ xs) (suc k) d e within = get_or-within xs k d e (omega (arith, within))

pub ends-rise-segments : (segments : List Seg) → AreSegments segments → IsNonDecreasingBy (λ segment. segment.hi) segments
ends-rise-segments segments are i j d before within =
    let rise = ends-rise 0 _ (map span_of segments) are i j (span_of d) before (omega (arith, within, length-spans segments)) in
    rw (sym (ap (λ (s : Span). s.hi) (get_or-spans segments i d)), sym (ap (λ (s : Span). s.hi) (get_or-spans segments j d))) rise

pub first_behind : (segments : List Seg) (i a : ℕ) → IsPartitionPoint (λ segment. leb segment.hi a ≡ true) (λ segment. leb segment.hi a ≡ false) segments i → IsFirstBehind (map span_of segments) i a
first_behind [] i a point = record { ended = λ k d below within. absurd (omega (arith, within)); behind = λ k d from within. absurd (omega (arith, within)) }
first_behind (s ∷ segments) i a point = record {
  ended = λ k d below within.
      let inside : k < length (s ∷ segments) = omega (arith, within, length-spans (s ∷ segments)) in
      let is = get_or-within (map span_of (s ∷ segments)) k d (span_of s) within ∙ get_or-spans (s ∷ segments) k s in
      let fact : (get_or (s ∷ segments) k s).hi ≤ a = leb-true _ _ (point.0 k s (omega arith) below) in
      rw (ap (λ (x : Span). x.hi) is) fact;
  behind = λ k d from within.
      let inside : k < length (s ∷ segments) = omega (arith, within, length-spans (s ∷ segments)) in
      let is = get_or-within (map span_of (s ∷ segments)) k d (span_of s) within ∙ get_or-spans (s ∷ segments) k s in
      let fact : a < (get_or (s ∷ segments) k s).hi = leb-false _ _ (point.1 k s from inside) in
      rw (ap (λ (x : Span). x.hi) is) fact;
}

pub found : (a i : ℕ) (segments : List Seg) (s d : Seg) → AreSegments segments → i < length segments → s ≡ get_or segments i d → IsFirstBehind (map span_of segments) i a → s.lo ≤ a
    → key_told segments a ≡ Some s.key
found a i segments s d are within is point low =
    key-owner segments a
    ∙ ap (option_map (λ n. record { 0 = n })) (search-hit 0 _ a i (map span_of segments) (span_of s) (span_of d) are (omega (arith, within, length-spans segments)) (ap span_of is ∙ sym (get_or-spans segments i d)) point low)

pub passed : (a i : ℕ) (segments : List Seg) (s d : Seg) → AreSegments segments → i < length segments → s ≡ get_or segments i d → IsFirstBehind (map span_of segments) i a → a < s.lo
    → key_told segments a ≡ None
passed a i segments s d are within is point before =
    key-owner segments a
    ∙ ap (option_map (λ n. record { 0 = n })) (search-miss 0 _ a i (map span_of segments) (span_of s) (span_of d) are (omega (arith, within, length-spans segments)) (ap span_of is ∙ sym (get_or-spans segments i d)) point before)

pub none_left : (a i : ℕ) (segments : List Seg) → length segments ≤ i → IsFirstBehind (map span_of segments) i a → key_told segments a ≡ None
none_left a i segments past point =
    key-owner segments a
    ∙ ap (option_map (λ n. record { 0 = n })) (search-none a i (map span_of segments) (omega (arith, past, length-spans segments)) point)
