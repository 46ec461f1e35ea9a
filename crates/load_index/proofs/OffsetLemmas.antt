-- That spans tell the first segment that has an offset.
use Rattle.std.proofs.Common.{◌≡◌, ℕ, ◌+◌, ◌-◌, ◌*◌, ◌<◌, ◌≤◌, nat_lt, nat_le, Bool, true, false, ◌&&◌, List, [], ◌∷◌, ◌++◌, length, take, get_or, None, Some, refl, sym, ap, subst, ◌∙◌, arith, suc, zero, length-append}
use Rattle.std.specs.Prelude.{find, slice_get, min, option_and_then}
use Rattle.std.proofs.lemmas.List.{take_more}
use Rattle.address_spans.specs.declared.span.Span.{Span}
use Rattle.address_spans.specs.Spans.{AreDisjoint, holds as span_holds, owner_at}
use Rattle.load_model.specs.declared.load_segment.LoadSegment.{LoadSegment}
use Rattle.load_model.specs.Segments.{has_offset}
use Rattle.load_index.specs.Offsets.{EndInTime, TellFirst, far_from, span_from, spans_from}
use Rattle.load_index.proofs.SpanLemmas.{owner_here, owner_there}

-- ---- one segment

le_behind : (base a b : ℕ) → base ≤ b → nat_le (a - base) (b - base) ≡ nat_le a b
le_behind base a b from = grind arith

lt_behind : (base a b m : ℕ) → base ≤ a → a < base + m → nat_lt (a - base) (min (b - base) m) ≡ nat_lt a b
lt_behind base a b m from below = grind arith

span_holds_as : (base place offset : ℕ) (s : LoadSegment) → base ≤ offset → offset < base + far_from → span_holds (offset - base) (span_from base place s) ≡ has_offset offset s
span_holds_as base place offset s from below =
    ap (λ (b : Bool). b && nat_lt (offset - base) (min (s.offset + s.size - base) far_from)) (le_behind base s.offset offset from)
    ∙ ap (λ (b : Bool). nat_le s.offset offset && b) (lt_behind base offset (s.offset + s.size) far_from from below)

found_here : (s : LoadSegment) (behind : List LoadSegment) (offset : ℕ) → has_offset offset s ≡ true → find (has_offset offset) (s ∷ behind) ≡ Some s
found_here s behind offset here = rw here refl

found_there : (s : LoadSegment) (behind : List LoadSegment) (offset : ℕ) → has_offset offset s ≡ false → find (has_offset offset) (s ∷ behind) ≡ find (has_offset offset) behind
found_there s behind offset here = rw here refl

-- ---- the first of a list

slice_get_at : (before : List LoadSegment) (s : LoadSegment) (behind : List LoadSegment) → slice_get (before ++ s ∷ behind) (length before) ≡ Some s
slice_get_at [] s behind = refl
slice_get_at (x ∷ before) s behind = slice_get_at before s behind

joined : (before : List LoadSegment) (s : LoadSegment) (behind : List LoadSegment) → (before ++ s ∷ []) ++ behind ≡ before ++ s ∷ behind
joined [] s behind = refl
joined (x ∷ before) s behind = ap (λ (xs : List LoadSegment). x ∷ xs) (joined before s behind)

told_from : (base offset : ℕ) → base ≤ offset → offset < base + far_from → (before segments : List LoadSegment)
    → find (has_offset offset) segments ≡ option_and_then (slice_get (before ++ segments)) (owner_at (spans_from base (length before) segments) (offset - base))
told_from base offset from below before [] = refl
told_from base offset from below before (s ∷ segments) =
    let span = span_from base (length before) s in
    let as_segment = span_holds_as base (length before) offset s from below in
    let all = before ++ s ∷ segments in
    let rest = spans_from base (length before + 1) segments in
    elim (has_offset offset s) as (λ b. has_offset offset s ≡ b → find (has_offset offset) (s ∷ segments) ≡ option_and_then (slice_get all) (owner_at (spans_from base (length before) (s ∷ segments)) (offset - base))) [
      | true ↦ λ here.
          found_here s segments offset here
          ∙ sym (slice_get_at before s segments)
          ∙ ap (option_and_then (slice_get all)) (sym (owner_here span rest (offset - base) (as_segment ∙ here)))
      | false ↦ λ here.
          found_there s segments offset here
          ∙ told_from base offset from below (before ++ s ∷ []) segments
          ∙ ap (λ (xs : List LoadSegment). option_and_then (slice_get xs) (owner_at (spans_from base (length (before ++ s ∷ [])) segments) (offset - base))) (joined before s segments)
          ∙ ap (λ (n : ℕ). option_and_then (slice_get all) (owner_at (spans_from base n segments) (offset - base))) (length-append before (s ∷ []))
          ∙ ap (option_and_then (slice_get all)) (sym (owner_there span rest (offset - base) (as_segment ∙ here)))
    ] refl

pub tells_first : (base : ℕ) (segments : List LoadSegment) (in_order made : List Span) → in_order ≡ spans_from base 0 segments → AreDisjoint made
    → ((address : ℕ) → owner_at made address ≡ owner_at in_order address) → TellFirst base segments made
tells_first base segments in_order made is apart same = record {
  disjoint = apart;
  told = λ offset from below. told_from base offset from below [] segments
      ∙ ap (option_and_then (slice_get segments)) (sym (same (offset - base) ∙ ap (λ (s : List Span). owner_at s (offset - base)) is));
}

-- ---- offsets that no segment has

has_not : (s : LoadSegment) (offset : ℕ) → s.offset + s.size ≤ offset → has_offset offset s ≡ false
has_not s offset end = ends (nat_le s.offset offset) (nat_lt offset (s.offset + s.size)) (grind arith)
  where
    ends : (a b : Bool) → b ≡ false → a && b ≡ false
    ends true b is = is
    ends false b is = refl

pub none_further : (segments : List LoadSegment) (offset : ℕ) → EndInTime segments → 2 * far_from ≤ offset → find (has_offset offset) segments ≡ None
none_further [] offset end behind = refl
none_further (s ∷ segments) offset end behind =
    found_there s segments offset (has_not s offset (omega (arith, end.0))) ∙ none_further segments offset end.1 behind

-- ---- the segment that is found begins before the offset

pub found_begins : (segments : List LoadSegment) (offset : ℕ) (found : LoadSegment) → find (has_offset offset) segments ≡ Some found → found.offset ≤ offset
found_begins [] offset found is = absurd (cc)
found_begins (s ∷ segments) offset found is =
    elim (has_offset offset s) as (λ b. has_offset offset s ≡ b → found.offset ≤ offset) [
      | true ↦ λ here.
          let same : s ≡ found = some_same s found (sym (found_here s segments offset here) ∙ is) in
          subst (λ (l : LoadSegment). l.offset ≤ offset) same (begins s offset here)
      | false ↦ λ here. found_begins segments offset found (sym (found_there s segments offset here) ∙ is)
    ] refl
  where
    some_same : (a b : LoadSegment) → Some a ≡ Some b → a ≡ b
    some_same a b is = cc

    begins : (s : LoadSegment) (offset : ℕ) → has_offset offset s ≡ true → s.offset ≤ offset
    begins s offset here = grind arith

-- ---- one segment more

spans_from-push : (base place : ℕ) (before : List LoadSegment) (s : LoadSegment) → spans_from base place (before ++ s ∷ []) ≡ spans_from base place before ++ span_from base (place + length before) s ∷ []
spans_from-push base place [] s = ap (λ (n : ℕ). span_from base n s ∷ []) (omega arith)
spans_from-push base place (x ∷ before) s =
    ap (λ (spans : List Span). span_from base place x ∷ spans) (spans_from-push base (place + 1) before s
    ∙ ap (λ (n : ℕ). spans_from base (place + 1) before ++ span_from base n s ∷ []) (omega arith))

ends-push : (before : List LoadSegment) (s : LoadSegment) → EndInTime before → s.offset + s.size ≤ 2 * far_from → EndInTime (before ++ s ∷ [])
ends-push [] s end last = (last, tt)
ends-push (x ∷ before) s end last = (end.0, ends-push before s end.1 last)

-- one turn of the loop that makes spans
pub spans_from-turn : (base i : ℕ) (all : List LoadSegment) (s d : LoadSegment) (spans new : List Span) → i < length all → s ≡ get_or all i d → spans ≡ spans_from base 0 (take i all) → EndInTime (take i all)
    → s.offset + s.size ≤ 2 * far_from → new ≡ spans ++ span_from base i s ∷ [] → (new ≡ spans_from base 0 (take (i + 1) all)) × EndInTime (take (i + 1) all)
spans_from-turn base i all s d spans new below at made end last pushed =
    let more : take (i + 1) all ≡ take i all ++ s ∷ [] = take_more all i d below ∙ ap (λ (x : LoadSegment). take i all ++ x ∷ []) (sym at) in
    let count : 0 + length (take i all) ≡ i = omega (arith, counted all i below) in (
      pushed ∙ ap (λ (ss : List Span). ss ++ span_from base i s ∷ []) made
          ∙ ap (λ (n : ℕ). spans_from base 0 (take i all) ++ span_from base n s ∷ []) (sym count)
          ∙ sym (spans_from-push base 0 (take i all) s)
          ∙ ap (spans_from base 0) (sym more),
      subst EndInTime (sym more) (ends-push (take i all) s end last),
    )
  where
    counted : (xs : List LoadSegment) (k : ℕ) → k < length xs → length (take k xs) ≡ k
    counted xs zero below = refl
    counted [] (suc k) below = absurd (omega arith)
    counted (x ∷ xs) (suc k) below = ap suc (counted xs k (omega arith))
