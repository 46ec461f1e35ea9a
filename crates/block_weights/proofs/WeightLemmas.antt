-- The weight of some addresses is the largest count of the segments that reach into them.
use Rattle.std.proofs.Common.{◌≡◌, ℕ, ◌-◌, ◌^◌, ◌<◌, ◌≤◌, max, List, None, Some, Option, refl, sym, ap, ◌∙◌, arith, inl, inr, length, get_or}
use Rattle.std.specs.Prelude.{slice_index}
use Rattle.std.specs.List.{AllWithin}
use Rattle.std.proofs.lemmas.Bool.{cases_lt}
use Rattle.std.proofs.lemmas.List.{get_or-map}
use Rattle.key_types.specs.declared.ids.KeyId.{KeyId}
use Rattle.key_types.specs.declared.places.Seg.{Seg}
use Rattle.key_types.specs.Segments.{AreSegments, key_told}
use Rattle.weight_model.specs.Blocks.{IsLargestCount}
use Rattle.block_weights.specs.Counts.{count_in, counts_of}
use Rattle.block_weights.specs.Largest.{largest_in}
use Rattle.block_weights.proofs.LargestLemmas.{largest-attained, largest-bounds}
use Rattle.block_weights.proofs.SegmentLemmas.{filled, holder, key_in, no_segment}

-- The segments between two places are those that reach behind an address and begin below another.
pub record IsRun (segments : List Seg) (lo hi first end : ℕ) : Type 0 where
  pub within : end ≤ length segments
  pub passed : AllWithin (λ segment. segment.hi ≤ lo) segments 0 first
  pub ahead : AllWithin (λ segment. lo < segment.hi) segments first (length segments)
  pub below : AllWithin (λ segment. segment.lo < hi) segments first end
  pub behind : AllWithin (λ segment. hi ≤ segment.lo) segments end (length segments)

pub value_at : (counts : List ℕ) (segments : List Seg) (n : ℕ) (d : Seg) → n < length segments → slice_index (counts_of counts segments) n ≡ count_in counts (get_or segments n d).key
value_at counts segments n d within = get_or-map (λ (s : Seg). count_in counts s.key) segments n d 0 within

-- a segment with an address between them stands in the run
inside : (segments : List Seg) (lo hi first end n a : ℕ) → IsRun segments lo hi first end → n < length segments → (get_or segments n no_segment).lo ≤ a → a < (get_or segments n no_segment).hi → lo ≤ a → a < hi
    → (first ≤ n) × (n < end)
inside segments lo hi first end n a run within begins ends low high = (
  elim (cases_lt n first) [
    | inl before ↦ absurd (omega (arith, run.passed n no_segment (omega arith) before))
    | inr not ↦ omega (arith, not)
  ],
  elim (cases_lt n end) [
    | inl before ↦ before
    | inr not ↦ absurd (omega (arith, run.behind n no_segment (omega (arith, not)) within))
  ],
)

pub no_weight : (segments : List Seg) (lo hi first end : ℕ) → IsRun segments lo hi first end → end ≤ first → (a : ℕ) → lo ≤ a → a < hi → key_told segments a ≡ None
no_weight segments lo hi first end run none a low high =
    elim (key_told segments a) as (λ (o : Option KeyId). key_told segments a ≡ o → o ≡ None) [
      | None ↦ λ is. refl
      | Some key ↦ λ is.
          let held = holder segments a key is in
          let at = inside segments lo hi first end held.0 a run held.1 held.2 held.3 low high in
          absurd (omega (arith, at.0, at.1, none))
    ] refl

pub weight_of_run : (segments : List Seg) (counts : List ℕ) (lo hi first end : ℕ) → AreSegments segments → lo < hi → first < end → IsRun segments lo hi first end
    → IsLargestCount (key_told segments) (count_in counts) lo hi (largest_in (counts_of counts segments) first end)
weight_of_run segments counts lo hi first end are some more run =
    let found = largest-attained (counts_of counts segments) first end more in
    let place : ℕ = found.0 in
    let at : Seg = get_or segments place no_segment in
    let there : place < length segments = omega (arith, found.2, run.within) in
    let reaches : lo < at.hi = run.ahead place no_segment found.1 there in
    let begins : at.lo < hi = run.below place no_segment found.1 found.2 in
    let full : at.lo < at.hi = filled 0 (2 ^ 64 - 1) segments are place no_segment there in
    record {
      attained = (
        max lo at.lo,
        at.key,
        omega arith,
        omega (arith, some, begins),
        key_in segments place (max lo at.lo) are there (omega arith) (omega (arith, reaches, full)),
        sym (value_at counts segments place no_segment there) ∙ found.3,
      );
      bounded = λ a key low high told.
          let held = holder segments a key told in
          let between = inside segments lo hi first end held.0 a run held.1 held.2 held.3 low high in
          let bound = largest-bounds (counts_of counts segments) first end held.0 between.0 between.1 in
          let count = value_at counts segments held.0 no_segment held.1 in
          omega (arith, bound, count, ap (count_in counts) held.4);
    }
