-- A frame, and what of the inner spans lies in it.
use Rattle.std.proofs.Common.{◌≡◌, ℕ, ◌-◌, ◌^◌, ◌<◌, ◌≤◌, min, max, List, [], ◌∷◌, ◌++◌, Option, None, Some, refl, sym, ap, ◌∙◌, arith, inl, inr}
use Rattle.std.specs.Option.{option_or}
use Rattle.std.proofs.lemmas.Bool.{cases_lt as either}
use Rattle.address_spans.specs.declared.span.Span.{Span}
use Rattle.address_spans.specs.Spans.{AreDisjoint, framed_owner, owner_at}
use Rattle.address_spans.proofs.SpanLemmas.{held, missed-before, missed-behind, owner-hit, owner-miss, owner-append, owner-before}
use Rattle.span_cover.proofs.CoverLemmas.{or-or}

-- a frame from an address on
abbrev pub frame_from : Span → ℕ → Span
frame_from frame from = record { lo = from; hi = frame.hi; owner = frame.owner }

-- how far the inner spans were taken: what is made, and of the frame and the inner spans what is left, are all
pub record FramedSoFar (old : List Span) (frame : Span) (inner spans : List Span) (from : ℕ) (left : List Span) : Type 0 where
  pub owners : (a : ℕ) → option_or (owner_at spans a) (framed_owner (owner_at (frame_from frame from ∷ []) a) (owner_at left a))
      ≡ option_or (owner_at old a) (framed_owner (owner_at (frame ∷ []) a) (owner_at inner a))
  pub ahead : AreDisjoint left

-- one span of the frame alone
hits : (x : Span) (a : ℕ) → x.lo ≤ a → a < x.hi → owner_at (x ∷ []) a ≡ Some x.owner
hits x a low high = owner-hit x [] a (held x a low high)

before : (x : Span) (a : ℕ) → a < x.lo → owner_at (x ∷ []) a ≡ None
before x a low = owner-miss x [] a (missed-before x a low)

behind : (x : Span) (a : ℕ) → x.hi ≤ a → owner_at (x ∷ []) a ≡ None
behind x a high = owner-miss x [] a (missed-behind x a high)

-- what stands before an inner span, in it, and behind it
abbrev gap : Span → ℕ → Span → Span
gap frame from x = record { lo = from; hi = min x.lo frame.hi; owner = frame.owner }

abbrev part : Span → ℕ → Span → Span
part frame from x = record { lo = max x.lo from; hi = min x.hi frame.hi; owner = x.owner }

parts : (frame : Span) (from a : ℕ) (x : Span) (rest : List Span) → AreDisjoint (x ∷ rest)
    → framed_owner (owner_at (frame_from frame from ∷ []) a) (owner_at (x ∷ rest) a)
    ≡ option_or (owner_at (gap frame from x ∷ []) a) (option_or (owner_at (part frame from x ∷ []) a)
    (framed_owner (owner_at (frame_from frame (max x.hi from) ∷ []) a) (owner_at rest a)))
parts frame from a x rest disjoint = elim (either a from) [
  | inl early ↦
      let whole = before (frame_from frame from) a early in
      let first = before (gap frame from x) a early in
      let second = before (part frame from x) a (let e : a < max x.lo from = grind arith in e) in
      let third = before (frame_from frame (max x.hi from)) a (let e : a < max x.hi from = grind arith in e) in
      rw whole (rw first (rw second (rw third refl)))
  | inr late ↦ elim (either a frame.hi) [
    | inr past ↦
        let whole = behind (frame_from frame from) a past in
        let first = behind (gap frame from x) a (let e : min x.lo frame.hi ≤ a = grind arith in e) in
        let second = behind (part frame from x) a (let e : min x.hi frame.hi ≤ a = grind arith in e) in
        let third = behind (frame_from frame (max x.hi from)) a past in
        rw whole (rw first (rw second (rw third refl)))
    | inl inside ↦
        let whole = hits (frame_from frame from) a late inside in
        elim (either a x.lo) [
          | inl front ↦
              let none = owner-before x.lo (2 ^ 64 - 1) a (x ∷ rest) (let e : x.lo ≤ x.lo = omega arith in (e, disjoint.1, disjoint.2)) front in
              let first = hits (gap frame from x) a late (let e : a < min x.lo frame.hi = grind arith in e) in
              rw whole (rw none (rw first refl))
          | inr behind_lo ↦ elim (either a x.hi) [
            | inl in_it ↦
                let found = owner-hit x rest a (held x a behind_lo in_it) in
                let first = behind (gap frame from x) a (let e : min x.lo frame.hi ≤ a = grind arith in e) in
                let second = hits (part frame from x) a (let e : max x.lo from ≤ a = grind arith in e) (let e : a < min x.hi frame.hi = grind arith in e) in
                rw whole (rw found (rw first (rw second refl)))
            | inr behind_hi ↦
                let found = owner-miss x rest a (missed-behind x a behind_hi) in
                let first = behind (gap frame from x) a (let e : min x.lo frame.hi ≤ a = grind arith in e) in
                let second = behind (part frame from x) a (let e : min x.hi frame.hi ≤ a = grind arith in e) in
                let third = hits (frame_from frame (max x.hi from)) a (let e : max x.hi from ≤ a = grind arith in e) inside in
                rw whole (rw found (rw first (rw second (rw third refl))))
          ]
        ]
  ]
]

pub FramedSoFar-none : (old : List Span) (frame : Span) (inner : List Span) → AreDisjoint inner → FramedSoFar old frame inner old frame.lo inner
FramedSoFar-none old frame inner disjoint = record { owners = λ a. refl; ahead = disjoint }

pub FramedSoFar-more : (old : List Span) (frame : Span) (inner spans one two : List Span) (from gap_hi part_lo part_hi next : ℕ) (x : Span) (rest : List Span)
    → FramedSoFar old frame inner spans from (x ∷ rest)
    → gap_hi ≡ min x.lo frame.hi → part_lo ≡ max x.lo from → part_hi ≡ min x.hi frame.hi → next ≡ max x.hi from
    → ((a : ℕ) → owner_at one a ≡ option_or (owner_at spans a) (owner_at (record { lo = from; hi = gap_hi; owner = frame.owner } ∷ []) a))
    → ((a : ℕ) → owner_at two a ≡ option_or (owner_at one a) (owner_at (record { lo = part_lo; hi = part_hi; owner = x.owner } ∷ []) a))
    → FramedSoFar old frame inner two next rest
FramedSoFar-more old frame inner spans one two from gap_hi part_lo part_hi next x rest so_far gh pl ph n first second = record {
  owners = λ a.
      let tail = framed_owner (owner_at (frame_from frame (max x.hi from) ∷ []) a) (owner_at rest a) in
      ap (λ k. option_or (owner_at two a) (framed_owner (owner_at (frame_from frame k ∷ []) a) (owner_at rest a))) n
      ∙ ap (λ o. option_or o tail) (
      second a
      ∙ ap (λ k. option_or (owner_at one a) (owner_at (record { lo = k; hi = part_hi; owner = x.owner } ∷ []) a)) pl
      ∙ ap (λ k. option_or (owner_at one a) (owner_at (record { lo = max x.lo from; hi = k; owner = x.owner } ∷ []) a)) ph
      ∙ ap (λ o. option_or o (owner_at (part frame from x ∷ []) a)) (first a ∙ ap (λ k. option_or (owner_at spans a) (owner_at (record { lo = from; hi = k; owner = frame.owner } ∷ []) a)) gh))
      ∙ or-or (option_or (owner_at spans a) (owner_at (gap frame from x ∷ []) a)) (owner_at (part frame from x ∷ []) a) tail
      ∙ or-or (owner_at spans a) (owner_at (gap frame from x ∷ []) a) (option_or (owner_at (part frame from x ∷ []) a) tail)
      ∙ ap (option_or (owner_at spans a)) (sym (parts frame from a x rest so_far.ahead))
      ∙ so_far.owners a;
  ahead = lower rest so_far.ahead;
}
  where
    lower : (rest : List Span) → AreDisjoint (x ∷ rest) → AreDisjoint rest
    lower [] all = let e : 0 ≤ 2 ^ 64 - 1 = omega arith in e
    lower (y ∷ ys) all = let e : 0 ≤ y.lo = omega arith in (e, all.2.1, all.2.2)

pub FramedSoFar-all : (old : List Span) (frame : Span) (inner spans made : List Span) (from : ℕ) (left : List Span)
    → FramedSoFar old frame inner spans from left → left ≡ []
    → ((a : ℕ) → owner_at made a ≡ option_or (owner_at spans a) (owner_at (frame_from frame from ∷ []) a))
    → (a : ℕ) → owner_at made a ≡ option_or (owner_at old a) (framed_owner (owner_at (frame ∷ []) a) (owner_at inner a))
FramedSoFar-all old frame inner spans made from left so_far none pushed a =
    pushed a
    ∙ ap (option_or (owner_at spans a)) (alone (owner_at (frame_from frame from ∷ []) a))
    ∙ ap (λ (xs : List Span). option_or (owner_at spans a) (framed_owner (owner_at (frame_from frame from ∷ []) a) (owner_at xs a))) (sym none)
    ∙ so_far.owners a
  where
    alone : (o : Option ℕ) → o ≡ framed_owner o None
    alone None = refl
    alone (Some n) = refl

-- a span that is pushed unless it is empty
pub filled : (spans made : List Span) (x : Span) → made ≡ spans ++ x ∷ [] → (a : ℕ) → owner_at made a ≡ option_or (owner_at spans a) (owner_at (x ∷ []) a)
filled spans made x pushed a = ap (λ (xs : List Span). owner_at xs a) pushed ∙ owner-append spans (x ∷ []) a

pub empty : (spans : List Span) (x : Span) → x.hi ≤ x.lo → (a : ℕ) → owner_at spans a ≡ option_or (owner_at spans a) (owner_at (x ∷ []) a)
empty spans x none a = elim (either a x.lo) [
  | inl low ↦ sym (or-none (owner_at spans a)) ∙ ap (option_or (owner_at spans a)) (sym (before x a low))
  | inr high ↦ sym (or-none (owner_at spans a)) ∙ ap (option_or (owner_at spans a)) (sym (behind x a (omega (arith, none, high))))
]
  where
    or-none : (o : Option ℕ) → option_or o None ≡ o
    or-none None = refl
    or-none (Some n) = refl
