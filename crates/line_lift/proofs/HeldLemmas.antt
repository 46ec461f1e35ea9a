-- The ways that blocks hold, by the counts over the addresses of keys.
use Rattle.std.proofs.Common.{◌≡◌, ℕ, ◌-◌, ◌<◌, ◌≤◌, max, true, List, [], ◌∷◌, map, filter, length, get_or, is_some, Option, None, Some, refl, sym, ap, subst, ◌∙◌, arith, inl, inr}
use Rattle.std.specs.List.{filter_map, flat_map}
use Rattle.std.specs.Option.{option_map, unwrap_or}
use Rattle.address_spans.specs.Spans.{holds}
use Rattle.address_spans.specs.declared.span.Span.{Span}
use Rattle.address_spans.proofs.SpanLemmas.{held as held_by_span}
use Rattle.block_model.specs.Function.{Function}
use Rattle.key_types.specs.Segments.{key_told}
use Rattle.key_types.specs.declared.ids.KeyId.{KeyId}
use Rattle.key_types.specs.declared.key.Key.{Key}
use Rattle.key_types.specs.declared.places.Seg.{Seg}
use Rattle.output_model.specs.Lift.{addresses_of, counted_blocks, held_by, held_count, is_held as is_way_held, ways_in}
use Rattle.output_model.specs.Sampled.{largest}
use Rattle.profile_model.specs.Ways.{Way, same_way}
use Rattle.profile_tree.proofs.ListLemmas.{among_any, any_among, bool_cases, nat_same}
use Rattle.profile_tree.proofs.SumLemmas.{Given, ways_apart}
use Rattle.profile_tree.proofs.WayLemmas.{same_ways, way_itself}
use Rattle.profile_tree.specs.Said.{way_at}
use Rattle.repair_model.specs.Repair.{Repair}
use Rattle.line_lift.specs.Held.{HaveKeys, IsCountOfKey}
use Rattle.line_lift.specs.Largest.{IsLargest}
use Rattle.line_lift.specs.Lift.{way_in}
use Rattle.line_lift.specs.Spans.{IsOwnerOver, counted, span_of}
use Rattle.line_lift.proofs.AmongLemmas.{Among, among_all, among_filter, among_filter_back, among_flat, among_flat_back, among_map, among_map_back, among_one, among_range, flat_flat, kept_among, kept_from, one_among, range_among}
use Rattle.line_lift.proofs.KeyLemmas.{key_from}
use Rattle.line_lift.proofs.LargestLemmas.{largest_of_larger}
use Rattle.line_lift.proofs.OwnerLemmas.{is_held, none_some, same_some}

-- ---- pairs of a way and a count

-- an address with a way under a block with a count
abbrev pub HoldsWay : (ℕ → Option Way) → List (Function × Repair) → Way → ℕ → Type 0
HoldsWay way funs w n = (a : ℕ) × (way a ≡ Some w) × IsOwnerOver (map span_of (counted funs)) a n

all_pairs : (way : ℕ → Option Way) (funs : List (Function × Repair)) → held_by way funs ≡ flat_map (ways_in way) (counted funs)
unfolding held_by
all_pairs way funs = flat_flat (λ it. counted_blocks it.0 it.1.solution) (ways_in way) funs

pub holds_pair : (way : ℕ → Option Way) (funs : List (Function × Repair)) (w : Way) (n : ℕ) → HoldsWay way funs w n → Among (w, n) (held_by way funs)
holds_pair way funs w n at =
    let a = at.0 in
    let back = among_map_back span_of at.2.0 (counted funs) (one_among at.2.0 (map span_of (counted funs)) at.2.1) in
    let block = back.0 in
    let inside : (block.0.lo ≤ a) × (a < block.0.hi) = is_held (span_of block) a (subst (λ (s : Span). holds a s ≡ true) back.2 at.2.2) in
    let count : block.1 ≡ n = ap (λ (s : Span). s.owner) (sym back.2) ∙ at.2.3 in
    let there : Among a (addresses_of block.0) = range_among block.0.lo (block.0.hi - block.0.lo) a inside.0 (omega (arith, inside.0, inside.1)) in
    subst (Among (w, n)) (sym (all_pairs way funs))
    (among_flat (ways_in way) (w, n) block (counted funs) back.1
    (subst (λ m. Among (w, m) (ways_in way block)) count
    (among_map (λ it. (it, block.1)) w (filter_map way (addresses_of block.0)) (kept_among way a w (addresses_of block.0) there at.1))))

pub pair_holds : (way : ℕ → Option Way) (funs : List (Function × Repair)) (w : Way) (n : ℕ) → Among (w, n) (held_by way funs) → HoldsWay way funs w n
pair_holds way funs w n among =
    let found = among_flat_back (ways_in way) (w, n) (counted funs) (subst (Among (w, n)) (all_pairs way funs) among) in
    let block = found.0 in
    let back = among_map_back (λ it. (it, block.1)) (w, n) (filter_map way (addresses_of block.0)) found.2 in
    let from = kept_from way back.0 (addresses_of block.0) back.1 in
    let a = from.0 in
    let range = among_range block.0.lo (block.0.hi - block.0.lo) a from.1 in (
      a,
      from.2 ∙ ap (λ (p : Way × ℕ). Some p.0) (sym back.2),
      (
        span_of block,
        among_one (span_of block) (map span_of (counted funs)) (among_map span_of block (counted funs) found.1),
        held_by_span (span_of block) a range.0 (omega (arith, range.0, range.1)),
        ap (λ (p : Way × ℕ). p.1) (sym back.2),
      ),
    )

-- ---- the largest count of a way

at_most_largest : (n : ℕ) (numbers : List ℕ) → Among n numbers → n ≤ largest numbers
at_most_largest n [] h = absurd h
at_most_largest n (m ∷ numbers) h = elim h as (λ _. n ≤ max m (largest numbers)) [
  | inl e ↦ omega arith
  | inr r ↦ let rest = at_most_largest n numbers r in omega arith
]

largest_at_most : (bound : ℕ) (numbers : List ℕ) → ((n : ℕ) → Among n numbers → n ≤ bound) → largest numbers ≤ bound
largest_at_most bound [] each = omega arith
largest_at_most bound (m ∷ numbers) each =
    let here = each m (inl refl) in
    let rest = largest_at_most bound numbers (λ n h. each n (inr h)) in
    omega arith

-- Whether a way is held, and its count, by the largest of its counts.
pub record IsHeldAs (held : List (Way × ℕ)) (w : Way) (count : Option ℕ) : Type 0 where
  pub is : is_way_held held w ≡ is_some count
  pub most : held_count held w ≡ unwrap_or count 0

counts_with : List (Way × ℕ) → Way → List ℕ
counts_with held w = map (λ it. it.1) (filter (λ it. same_way w it.0) held)

pair_with : (held : List (Way × ℕ)) (w : Way) (n : ℕ) → Among n (counts_with held w) → Among (w, n) held
unfolding counts_with
pair_with held w n h =
    let back = among_map_back (λ (it : Way × ℕ). it.1) n (filter (λ it. same_way w it.0) held) h in
    let kept = among_filter_back (λ (it : Way × ℕ). same_way w it.0) back.0 held back.1 in
    subst (λ (p : Way × ℕ). Among p held) (λ i. (sym (same_ways w back.0.0 kept.0) i, sym back.2 i)) kept.1

count_with : (held : List (Way × ℕ)) (w : Way) (n : ℕ) → Among (w, n) held → Among n (counts_with held w)
unfolding counts_with
count_with held w n h =
    among_map (λ (it : Way × ℕ). it.1) (w, n) (filter (λ it. same_way w it.0) held) (among_filter (λ (it : Way × ℕ). same_way w it.0) (w, n) held (way_itself w) h)

-- a way is held exactly with some count
pub held_with : (held : List (Way × ℕ)) (w : Way) → is_way_held held w ≡ true → (n : ℕ) × Among (w, n) held
held_with held w e =
    let found = any_among (λ (it : Way × ℕ). same_way w it.0) held e in
    (found.0.1, subst (λ v. Among (v, found.0.1) held) (sym (same_ways w found.0.0 found.2)) found.1)

pub with_held : (held : List (Way × ℕ)) (w : Way) (n : ℕ) → Among (w, n) held → is_way_held held w ≡ true
with_held held w n h = among_any (λ (it : Way × ℕ). same_way w it.0) (w, n) held h (way_itself w)

pub held_as : (held : List (Way × ℕ)) (w : Way) (count : Option ℕ) → IsLargest (λ n. Among (w, n) held) count → IsHeldAs held w count
unfolding counts_with
held_as held w None is = record {
  is = bool_cases (is_way_held held w) (λ e. let found = held_with held w e in absurd (is found.0 found.1)) (λ e. e);
  most = let most = largest_at_most 0 (counts_with held w) (λ n h. absurd (is n (pair_with held w n h))) in omega (arith, most);
}
held_as held w (Some m) is = record {
  is = with_held held w m is.attained;
  most =
      let low = at_most_largest m (counts_with held w) (count_with held w m is.attained) in
      let most = largest_at_most m (counts_with held w) (λ n h. is.bounded n (pair_with held w n h)) in
      omega (arith, low, most);
}

-- ---- keys

-- What is held of each key, by its number.
pub record AreHeld (names : List (List ℕ)) (keys : List Key) (pairs : List (Way × ℕ)) (held : List (Option ℕ)) : Type 0 where
  pub len : length held ≡ length keys
  pub each : (id : ℕ) → id < length keys → IsLargest (λ n. Among (way_at names keys id, n) pairs) (get_or held id None)
  pub known : (w : Way) (n : ℕ) → Among (w, n) pairs → (id : ℕ) × (id < length keys) × (way_at names keys id ≡ w)

module _ (names : List (List ℕ)) (keys : List Key) (segments : List Seg) (funs : List (Function × Repair)) (known : HaveKeys (length keys) segments) where
  -- the key of an address with a way
  key_with : (a : ℕ) (w : Way) → way_in names keys segments a ≡ Some w → (id : ℕ) × (key_told segments a ≡ Some (record { 0 = id })) × (id < length keys) × (way_at names keys id ≡ w)
  key_with a w e = by (key_told segments a) refl e
    where
      by : (o : Option KeyId) → key_told segments a ≡ o → option_map (λ key. way_at names keys key.0) o ≡ Some w → (id : ℕ) × (key_told segments a ≡ Some (record { 0 = id })) × (id < length keys) × (way_at names keys id ≡ w)
      by None is h = none_some w h
      by (Some key) is h =
          let from = key_from segments a key.0 is in
          (key.0, is, subst (λ k. k < length keys) from.2 (among_all (λ (s : Seg). s.key.0 < length keys) from.0 segments known from.1), same_some (way_at names keys key.0) w h)

  -- the largest count over an address, where a count is over it
  reached : (spans : ℕ → Option ℕ) (a n : ℕ) → IsLargest (IsOwnerOver (map span_of (counted funs)) a) (spans a) → IsOwnerOver (map span_of (counted funs)) a n → (m : ℕ) × (spans a ≡ Some m) × (n ≤ m)
  reached spans a n largest over = by (spans a) refl largest
    where
      by : (o : Option ℕ) → spans a ≡ o → IsLargest (IsOwnerOver (map span_of (counted funs)) a) o → (m : ℕ) × (spans a ≡ Some m) × (n ≤ m)
      by None is none = absurd (none n over)
      by (Some m) is most = (m, is, most.bounded n over)

  same_id : Given names keys [] [] → (j k : ℕ) → j < length keys → k < length keys → way_at names keys j ≡ way_at names keys k → j ≡ k
  same_id numbered j k low below e =
      sym (nat_same k j (sym (ways_apart names keys [] [] [] numbered j k low below) ∙ subst (λ w. same_way (way_at names keys j) w ≡ true) e (way_itself (way_at names keys j))))

  pub are_held : Given names keys [] [] → (spans : ℕ → Option ℕ) (held : List (Option ℕ)) → length held ≡ length keys
      → ((a : ℕ) → IsLargest (IsOwnerOver (map span_of (counted funs)) a) (spans a))
      → ((id : ℕ) → id < length keys → IsLargest (IsCountOfKey (key_told segments) spans id) (get_or held id None))
      → AreHeld names keys (held_by (way_in names keys segments) funs) held
  are_held numbered spans held len over of_keys = record {
    len = len;
    each = λ id low. largest_of_larger (IsCountOfKey (key_told segments) spans id) (λ n. Among (way_at names keys id, n) (held_by (way_in names keys segments) funs)) (get_or held id None)
        (λ n at.
        let most : IsLargest (IsOwnerOver (map span_of (counted funs)) at.0) (Some n) = subst (IsLargest (IsOwnerOver (map span_of (counted funs)) at.0)) at.2 (over at.0) in
        holds_pair (way_in names keys segments) funs (way_at names keys id) n (at.0, ap (option_map (λ key. way_at names keys key.0)) at.1, most.attained))
        (λ n among.
        let at = pair_holds (way_in names keys segments) funs (way_at names keys id) n among in
        let key = key_with at.0 (way_at names keys id) at.1 in
        let same = same_id numbered key.0 id key.2 low key.3 in
        let most = reached spans at.0 n (over at.0) at.2 in
        (most.0, (at.0, key.1 ∙ ap (λ k. Some (record { 0 = k })) same, most.1), most.2))
        (of_keys id low);
    known = λ w n among.
        let at = pair_holds (way_in names keys segments) funs w n among in
        let key = key_with at.0 w at.1 in
        (key.0, key.2, key.3);
  }
