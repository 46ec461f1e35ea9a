-- Spans in the frames of others.
use Rattle.std.proofs.Common.{◌≡◌, ℕ, suc, ◌-◌, ◌^◌, ◌≤◌, inl, inr, List, [], ◌∷◌, ◌++◌, Option, None, Some, refl, sym, ap, ◌∙◌, arith, subst, append_assoc, append-nil, drop}
use Rattle.std.specs.Option.{option_or}
use Rattle.address_spans.specs.declared.span.Span.{Span}
use Rattle.address_spans.specs.Spans.{AreBetween, AreDisjoint, framed_owner, owner_at}
use Rattle.address_spans.specs.Overlay.{IsLeft, clipped_all, held_in, overlaid}
use Rattle.address_spans.proofs.SpanLemmas.{held, missed-behind, owner-hit, owner-miss, owner-append, owner-before, owner-behind, AreBetween-append, AreBetween-lower}
use Rattle.address_spans.proofs.OverlayLemmas.{either, clipped_all-between, clipped_all-left, clipped_all-owner, left-disjoint, overlaid-between, overlaid-owner}

pub held_in-between : (from : ℕ) (frames inner : List Span) → AreBetween from (2 ^ 64 - 1) frames → AreDisjoint inner → AreBetween from (2 ^ 64 - 1) (held_in frames inner)
held_in-between from [] inner between disjoint = between
held_in-between from (f ∷ frames) inner between disjoint =
    AreBetween-append from f.hi (2 ^ 64 - 1) (clipped_all f.lo f.hi inner) (held_in frames inner)
    (AreBetween-lower f.lo from f.hi (clipped_all f.lo f.hi inner) (clipped_all-between f.lo f.lo f.hi 0 (2 ^ 64 - 1) inner disjoint (omega (arith, between.1)) (omega arith)) between.0)
    (held_in-between f.hi frames inner between.2 disjoint)

-- what is held has an owner where a frame has one
abbrev pub only_framed : Option ℕ → Option ℕ → Option ℕ
only_framed None inner = None
only_framed (Some frame) inner = inner

pub held_in-owner : (from a : ℕ) (frames inner : List Span) → AreBetween from (2 ^ 64 - 1) frames → AreDisjoint inner → owner_at (held_in frames inner) a ≡ only_framed (owner_at frames a) (owner_at inner a)
held_in-owner from a [] inner between disjoint = refl
held_in-owner from a (f ∷ frames) inner between disjoint = elim (either a f.lo) [
  | inl before ↦
      owner-before f.lo (2 ^ 64 - 1) a (held_in (f ∷ frames) inner) (held_in-between f.lo (f ∷ frames) inner (omega arith, between.1, between.2) disjoint) before
      ∙ sym (ap (λ o. only_framed o (owner_at inner a)) (owner-before f.lo (2 ^ 64 - 1) a (f ∷ frames) (omega arith, between.1, between.2) before))
  | inr at ↦
      owner-append (clipped_all f.lo f.hi inner) (held_in frames inner) a
      ∙ elim (either a f.hi) [
        | inl inside ↦
            ap (λ o. option_or o (owner_at (held_in frames inner) a)) (clipped_all-owner f.lo f.hi a inner at inside)
            ∙ ap (option_or (owner_at inner a)) (owner-before f.hi (2 ^ 64 - 1) a (held_in frames inner) (held_in-between f.hi frames inner between.2 disjoint) inside)
            ∙ or-none (owner_at inner a)
            ∙ sym (ap (λ o. only_framed o (owner_at inner a)) (owner-hit f frames a (held f a at inside)))
        | inr past ↦
            ap (λ o. option_or o (owner_at (held_in frames inner) a))
            (owner-behind f.lo f.hi a (clipped_all f.lo f.hi inner) (clipped_all-between f.lo f.lo f.hi 0 (2 ^ 64 - 1) inner disjoint (omega (arith, between.1)) (omega arith)) past)
            ∙ held_in-owner f.hi a frames inner between.2 disjoint
            ∙ sym (ap (λ o. only_framed o (owner_at inner a)) (owner-miss f frames a (missed-behind f a past)))
      ]
]
  where
    or-none : (o : Option ℕ) → option_or o None ≡ o
    or-none None = refl
    or-none (Some n) = refl

pub framed-disjoint : (frames inner held made : List Span) → AreDisjoint frames → AreDisjoint inner → held ≡ held_in frames inner → made ≡ overlaid 0 held frames → AreDisjoint made
framed-disjoint frames inner held made over under is laid =
    subst (λ (xs : List Span). AreDisjoint xs) (sym laid)
    (overlaid-between 0 held frames (subst (λ (xs : List Span). AreDisjoint xs) (sym is) (held_in-between 0 frames inner over under)) over)

pub framed-owners : (frames inner held made : List Span) (a : ℕ) → AreDisjoint frames → AreDisjoint inner → held ≡ held_in frames inner → made ≡ overlaid 0 held frames
    → owner_at made a ≡ framed_owner (owner_at frames a) (owner_at inner a)
framed-owners frames inner held made a over under is laid =
    ap (λ (xs : List Span). owner_at xs a) laid
    ∙ overlaid-owner 0 a held frames (subst (λ (xs : List Span). AreDisjoint xs) (sym is) (held_in-between 0 frames inner over under)) over (omega arith)
    ∙ ap (λ (xs : List Span). option_or (owner_at xs a) (owner_at frames a)) is
    ∙ ap (λ o. option_or o (owner_at frames a)) (held_in-owner 0 a frames inner over under)
    ∙ by_cases (owner_at frames a) (owner_at inner a)
  where
    by_cases : (frame inside : Option ℕ) → option_or (only_framed frame inside) frame ≡ framed_owner frame inside
    by_cases None inside = refl
    by_cases (Some n) None = refl
    by_cases (Some n) (Some m) = refl

-- how far the frames were gone through
pub record HeldSoFar (frames inner : List Span) (i : ℕ) (left out : List Span) : Type 0 where
  pub from : ℕ
  pub disjoint : AreDisjoint left
  pub between : AreBetween from (2 ^ 64 - 1) (drop i frames)
  pub so_far : out ++ held_in (drop i frames) left ≡ held_in frames inner

pub HeldSoFar-none : (frames inner out : List Span) → AreDisjoint frames → AreDisjoint inner → out ≡ [] → HeldSoFar frames inner 0 inner out
HeldSoFar-none frames inner out over under none =
    record { from = 0; disjoint = under; between = over; so_far = ap (λ (xs : List Span). xs ++ held_in frames inner) none }

-- spans that end in front of all frames are held by none
held_in-left : (from end : ℕ) (frames below left : List Span) → AreBetween from (2 ^ 64 - 1) frames → IsLeft end below left → end ≤ from → held_in frames below ≡ held_in frames left
held_in-left from end [] below left between is before = refl
held_in-left from end (f ∷ frames) below left between is before =
    ap (λ (xs : List Span). xs ++ held_in frames below) (clipped_all-left f.lo f.hi end below left is (omega (arith, between.0, before)))
    ∙ ap (λ (xs : List Span). clipped_all f.lo f.hi left ++ xs) (held_in-left f.hi end frames below left between.2 is (omega (arith, between.0, between.1, before)))

pub HeldSoFar-more : (frames inner : List Span) (i : ℕ) (left next out pushed : List Span) (f : Span) → HeldSoFar frames inner i left out → drop i frames ≡ f ∷ drop (suc i) frames
    → pushed ≡ out ++ clipped_all f.lo f.hi left → IsLeft f.hi left next → HeldSoFar frames inner (suc i) next pushed
HeldSoFar-more frames inner i left next out pushed f so_far first pushes is =
    let between = subst (λ (xs : List Span). AreBetween so_far.from (2 ^ 64 - 1) xs) first so_far.between in
    record {
      from = f.hi;
      disjoint = left-disjoint f.hi left next is so_far.disjoint;
      between = between.2;
      so_far =
          ap (λ (xs : List Span). xs ++ held_in (drop (suc i) frames) next) pushes
          ∙ append_assoc out (clipped_all f.lo f.hi left) (held_in (drop (suc i) frames) next)
          ∙ ap (λ (xs : List Span). out ++ (clipped_all f.lo f.hi left ++ xs)) (sym (held_in-left f.hi f.hi (drop (suc i) frames) left next between.2 is (omega arith)))
          ∙ ap (λ (xs : List Span). out ++ held_in xs left) (sym first)
          ∙ so_far.so_far;
    }

pub HeldSoFar-all : (frames inner : List Span) (i : ℕ) (left out : List Span) → HeldSoFar frames inner i left out → drop i frames ≡ [] → out ≡ held_in frames inner
HeldSoFar-all frames inner i left out so_far none =
    sym (append-nil out) ∙ ap (λ (xs : List Span). out ++ held_in xs left) (sym none) ∙ so_far.so_far
