-- The counts of keys, segment by segment.
use Rattle.std.proofs.Common.{◌≡◌, ◌⊎◌, ℕ, zero, suc, ◌+◌, ◌<◌, ◌≤◌, ◌^◌, ◌-◌, List, [], ◌∷◌, ◌++◌, Option, None, Some, refl, sym, ap, subst, ◌∙◌, arith, inl, inr, length, map, take, set, get_or, get_or-set_other, get_or-set_same}
use Rattle.std.specs.Option.{option_map}
use Rattle.std.proofs.lemmas.Bool.{cases_eq}
use Rattle.std.proofs.lemmas.List.{length-set, take_more, take_all}
use Rattle.address_spans.specs.Spans.{AreBetween, owner_at}
use Rattle.address_spans.specs.declared.span.Span.{Span}
use Rattle.address_spans.proofs.SpanLemmas.{held as held_by_span}
use Rattle.key_types.specs.Segments.{AreSegments, key_told, span_of}
use Rattle.key_types.specs.declared.ids.KeyId.{KeyId}
use Rattle.key_types.specs.declared.places.Seg.{Seg}
use Rattle.key_types.proofs.SearchLemmas.{key-owner}
use Rattle.line_lift.specs.Held.{HaveKeys, IsCountIn, IsCountOfKey}
use Rattle.line_lift.specs.Largest.{IsLargest, larger}
use Rattle.line_lift.proofs.AmongLemmas.{Among, among_either, among_left, among_map, among_map_back, among_right}
use Rattle.line_lift.proofs.LargestLemmas.{largest_of_both, largest_of_larger}
use Rattle.line_lift.proofs.OwnerLemmas.{is_held, none_some, owner_from, owns, same_some}

-- a count over one of some segments with this key
abbrev pub IsCountOver : List Seg → (ℕ → Option ℕ) → ℕ → ℕ → Type 0
IsCountOver segments count id n = (s : Seg) × Among s segments × (s.key.0 ≡ id) × IsCountIn count s.lo s.hi n

-- the segments before a place were gone through
pub record KeysSoFar (segments : List Seg) (count : ℕ → Option ℕ) (keys done : ℕ) (held : List (Option ℕ)) : Type 0 where
  pub len : length held ≡ keys
  pub largest : (id : ℕ) → id < keys → IsLargest (IsCountOver (take done segments) count id) (get_or held id None)

pub KeysSoFar-none : (segments : List Seg) (count : ℕ → Option ℕ) (keys : ℕ) (held : List (Option ℕ)) → length held ≡ keys → ((id : ℕ) → get_or held id None ≡ None) → KeysSoFar segments count keys 0 held
KeysSoFar-none segments count keys held len none = record {
  len = len;
  largest = λ id low. subst (IsLargest (IsCountOver (take 0 segments) count id)) (sym (none id)) (λ n over. empty segments over.0 over.1);
}
  where
    empty : (segments : List Seg) (s : Seg) → Among s (take 0 segments) → ⊥
    empty [] s h = h
    empty (x ∷ segments) s h = h

-- one segment more
pub KeysSoFar-more : (segments : List Seg) (count : ℕ → Option ℕ) (keys done : ℕ) (held : List (Option ℕ)) (s d : Seg) (over : Option ℕ) → done < length segments → s ≡ get_or segments done d → s.key.0 < keys
    → IsLargest (IsCountIn count s.lo s.hi) over → KeysSoFar segments count keys done held
    → KeysSoFar segments count keys (done + 1) (set held s.key.0 (larger (get_or held s.key.0 None) over))
KeysSoFar-more segments count keys done held s d over within is low largest so_far =
    let longer : take (done + 1) segments ≡ take done segments ++ s ∷ [] = take_more segments done d within ∙ ap (λ y. take done segments ++ y ∷ []) (sym is) in
    record {
      len = length-set held s.key.0 (larger (get_or held s.key.0 None) over) ∙ so_far.len;
      largest = λ id inside. subst (λ (ys : List Seg). IsLargest (IsCountOver ys count id) (get_or (set held s.key.0 (larger (get_or held s.key.0 None) over)) id None)) (sym longer) (by id inside (cases_eq id s.key.0));
    }
  where
    left_in : (id n : ℕ) → IsCountOver (take done segments) count id n → IsCountOver (take done segments ++ s ∷ []) count id n
    left_in id n of = (of.0, among_left of.0 (take done segments) (s ∷ []) of.1, of.2, of.3)

    either : (id n : ℕ) → IsCountOver (take done segments ++ s ∷ []) count id n → IsCountOver (take done segments) count id n ⊎ ((s.key.0 ≡ id) × IsCountIn count s.lo s.hi n)
    either id n of = elim (among_either of.0 (take done segments) (s ∷ []) of.1) as (λ _. IsCountOver (take done segments) count id n ⊎ ((s.key.0 ≡ id) × IsCountIn count s.lo s.hi n)) [
      | inl l ↦ inl (of.0, l, of.2, of.3)
      | inr r ↦ elim r as (λ _. IsCountOver (take done segments) count id n ⊎ ((s.key.0 ≡ id) × IsCountIn count s.lo s.hi n)) [
        | inl e ↦ inr (subst (λ (x : Seg). (x.key.0 ≡ id) × IsCountIn count x.lo x.hi n) e (of.2, of.3))
        | inr none ↦ absurd none
      ]
    ]

    by : (id : ℕ) → id < keys → (id ≡ s.key.0) ⊎ (id ≡ s.key.0 → ⊥) → IsLargest (IsCountOver (take done segments ++ s ∷ []) count id) (get_or (set held s.key.0 (larger (get_or held s.key.0 None) over)) id None)
    by id inside (inl same) =
        let there : s.key.0 < length held = omega (arith, low, so_far.len) in
        let here : get_or (set held s.key.0 (larger (get_or held s.key.0 None) over)) id None ≡ larger (get_or held id None) over =
        ap (λ k. get_or (set held s.key.0 (larger (get_or held s.key.0 None) over)) k None) same ∙ get_or-set_same held s.key.0 (larger (get_or held s.key.0 None) over) None there ∙ ap (λ k. larger (get_or held k None) over) (sym same) in
        subst (IsLargest (IsCountOver (take done segments ++ s ∷ []) count id)) (sym here)
        (largest_of_both (IsCountOver (take done segments) count id) (IsCountIn count s.lo s.hi) (IsCountOver (take done segments ++ s ∷ []) count id) (get_or held id None) over
        (left_in id)
        (λ n at. (s, among_right s (take done segments) (s ∷ []) (inl refl), sym same, at))
        (λ n of. elim (either id n of) as (λ _. IsCountOver (take done segments) count id n ⊎ IsCountIn count s.lo s.hi n) [ inl l ↦ inl l | inr r ↦ inr r.1 ])
        (so_far.largest id inside) largest)
    by id inside (inr other) =
        let here : get_or (set held s.key.0 (larger (get_or held s.key.0 None) over)) id None ≡ get_or held id None = get_or-set_other held s.key.0 id (larger (get_or held s.key.0 None) over) None other in
        subst (IsLargest (IsCountOver (take done segments ++ s ∷ []) count id)) (sym here)
        (largest_of_larger (IsCountOver (take done segments) count id) (IsCountOver (take done segments ++ s ∷ []) count id) (get_or held id None)
        (left_in id)
        (λ n of. (n, elim (either id n of) as (λ _. IsCountOver (take done segments) count id n) [ inl l ↦ l | inr r ↦ absurd (other (sym r.0)) ], omega arith))
        (so_far.largest id inside))

numbered : ℕ → KeyId
numbered n = record { 0 = n }

-- the key of an address is that of a segment that holds it
pub key_from : (segments : List Seg) (a id : ℕ) → key_told segments a ≡ Some (record { 0 = id }) → (s : Seg) × Among s segments × (s.key.0 ≡ id) × (s.lo ≤ a) × (a < s.hi)
unfolding numbered
key_from segments a id e =
    let owner : owner_at (map span_of segments) a ≡ Some id = number (owner_at (map span_of segments) a) (sym (key-owner segments a) ∙ e) in
    let found = owner_from (map span_of segments) a id owner in
    let back = among_map_back span_of found.0 segments found.1 in
    let inside = is_held found.0 a found.2 in
    (back.0, back.1, ap (λ (x : Span). x.owner) (sym back.2) ∙ found.3, subst (λ (x : Span). x.lo ≤ a) back.2 inside.0, subst (λ (x : Span). a < x.hi) back.2 inside.1)
  where
    number : (o : Option ℕ) → option_map numbered o ≡ Some (record { 0 = id }) → o ≡ Some id
    number None e = none_some (record { 0 = id }) e
    number (Some n) e = ap (λ (k : KeyId). Some k.0) (same_some (record { 0 = n }) (record { 0 = id }) e)

-- a segment tells the key of its addresses
key_of : (segments : List Seg) (s : Seg) (a : ℕ) → AreSegments segments → Among s segments → s.lo ≤ a → a < s.hi → key_told segments a ≡ Some s.key
key_of segments s a are among low high =
    key-owner segments a ∙ ap (option_map (λ n. record { 0 = n })) (owns 0 (2 ^ 64 - 1) (map span_of segments) (span_of s) a are (among_map span_of s segments among) (held_by_span (span_of s) a low high))

-- a segment has addresses
filled_from : (from to : ℕ) (xs : List Seg) → AreBetween from to (map span_of xs) → (j : ℕ) (d : Seg) → j < length xs → (get_or xs j d).lo < (get_or xs j d).hi
filled_from from to [] between j d within = absurd (omega (arith, within))
filled_from from to (x ∷ xs) between zero d within = between.1
filled_from from to (x ∷ xs) between (suc j) d within = filled_from x.hi to xs between.2 j d (omega (arith, within))

pub segment_filled : (segments : List Seg) → AreSegments segments → (j : ℕ) (d : Seg) → j < length segments → (get_or segments j d).lo < (get_or segments j d).hi
segment_filled segments are = filled_from 0 (2 ^ 64 - 1) segments are

-- the key of a segment is known
pub key_low : (keys : ℕ) (segments : List Seg) → HaveKeys keys segments → (j : ℕ) (d : Seg) → j < length segments → (get_or segments j d).key.0 < keys
key_low keys [] known j d within = absurd (omega (arith, within))
key_low keys (x ∷ xs) known zero d within = known.0
key_low keys (x ∷ xs) known (suc j) d within = key_low keys xs known.1 j d (omega (arith, within))

pub KeysSoFar-all : (segments : List Seg) (count : ℕ → Option ℕ) (keys done : ℕ) (held : List (Option ℕ)) → AreSegments segments → length segments ≤ done → KeysSoFar segments count keys done held
    → (id : ℕ) → id < keys → IsLargest (IsCountOfKey (key_told segments) count id) (get_or held id None)
KeysSoFar-all segments count keys done held are all so_far id inside =
    largest_of_larger (IsCountOver segments count id) (IsCountOfKey (key_told segments) count id) (get_or held id None)
    (λ n of. (of.3.0, key_of segments of.0 of.3.0 are of.1 of.3.1 of.3.2 ∙ ap (λ k. Some (record { 0 = k })) of.2, of.3.3))
    (λ n of. let found = key_from segments of.0 id of.1 in (n, (found.0, found.1, found.2, (of.0, found.3, found.4, of.2)), omega arith))
    (subst (λ (ys : List Seg). IsLargest (IsCountOver ys count id) (get_or held id None)) (take_all done segments all) (so_far.largest id inside))
