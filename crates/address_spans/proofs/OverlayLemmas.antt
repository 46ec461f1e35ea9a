-- Spans that are clipped, and a disjoint list laid over another.
use Rattle.std.proofs.Common.{◌≡◌, ℕ, suc, ◌-◌, ◌^◌, ◌<◌, ◌≤◌, min, max, true, false, List, [], ◌∷◌, ◌++◌, Option, None, Some, refl, sym, ap, ◌∙◌, arith, append_assoc, append-nil, subst, ◌⊎◌, inl, inr, length, take, drop, get_or, drop-cons, length-drop}
use Rattle.std.proofs.Math.Seq.{take-suc}
use Rattle.std.proofs.lemmas.List.{take-append-drop, take_all}
use Rattle.std.specs.Prelude.{nat_lt}
use Rattle.std.specs.Option.{option_or}
use Rattle.std.specs.List.{AllByRecursion}
use Rattle.std.proofs.lemmas.Bool.Decides.{nat_tests}
use Rattle.std.proofs.lemmas.Bool.{cases_Bool}
use Rattle.std.proofs.lemmas.Grind.{flat_map-append}
use Rattle.address_spans.specs.declared.span.Span.{Span}
use Rattle.address_spans.specs.Spans.{holds, owner_at, AreBetween, AreDisjoint}
use Rattle.address_spans.specs.Overlay.{clipped, clipped_all, overlaid, IsLeft}
use Rattle.address_spans.proofs.SpanLemmas.{held, missed-behind, owner-hit, owner-miss, owner-append, owner-before, owner-behind, AreBetween-append, AreBetween-rest}

-- what of a span lies between two addresses, if there is some
abbrev piece : (from to : ℕ) → Span → Span
piece from to x = record { lo = max x.lo from; hi = min x.hi to; owner = x.owner }

pub clipped-some : (from to : ℕ) (x : Span) → max x.lo from < min x.hi to → clipped from to x ≡ record { lo = max x.lo from; hi = min x.hi to; owner = x.owner } ∷ []
clipped-some from to x some = rw (let h : nat_lt (max x.lo from) (min x.hi to) ≡ true = grind (arith, nat_tests) in h) refl

pub clipped-none : (from to : ℕ) (x : Span) → min x.hi to ≤ max x.lo from → clipped from to x ≡ []
clipped-none from to x none = rw (let h : nat_lt (max x.lo from) (min x.hi to) ≡ false = grind (arith, nat_tests) in h) refl

-- either something of a span lies there, or nothing
pub either : (m n : ℕ) → (m < n) ⊎ (n ≤ m)
either m n = grind arith

-- between the two addresses a clipped span is that span
clipped-owner : (from to a : ℕ) (x : Span) (xs ys : List Span) → from ≤ a → a < to → owner_at xs a ≡ owner_at ys a → owner_at (clipped from to x ++ xs) a ≡ owner_at (x ∷ ys) a
clipped-owner from to a x xs ys low high same = elim (either (max x.lo from) (min x.hi to)) [
  | inl some ↦
      ap (λ (cs : List Span). owner_at (cs ++ xs) a) (clipped-some from to x some)
      ∙ as_the_span (piece from to x) x (let e : holds a (piece from to x) ≡ holds a x = same_test x in e) refl
  | inr none ↦
      ap (λ (cs : List Span). owner_at (cs ++ xs) a) (clipped-none from to x none)
      ∙ same ∙ sym (owner-miss x ys a (let e : holds a x ≡ false = grind (arith, nat_tests) in e))
]
  where
    same_test : (x : Span) → holds a (record { lo = max x.lo from; hi = min x.hi to; owner = x.owner }) ≡ holds a x
    same_test x = grind (arith, nat_tests)

    as_the_span : (c x : Span) → holds a c ≡ holds a x → c.owner ≡ x.owner → owner_at (c ∷ xs) a ≡ owner_at (x ∷ ys) a
    as_the_span c x test owner = elim (cases_Bool (holds a x)) [
      | inl hit ↦ owner-hit c xs a (test ∙ hit) ∙ ap (λ n. Some n) owner ∙ sym (owner-hit x ys a hit)
      | inr miss ↦ owner-miss c xs a (test ∙ miss) ∙ same ∙ sym (owner-miss x ys a miss)
    ]

pub clipped_all-owner : (from to a : ℕ) (xs : List Span) → from ≤ a → a < to → owner_at (clipped_all from to xs) a ≡ owner_at xs a
clipped_all-owner from to a [] low high = refl
clipped_all-owner from to a (x ∷ xs) low high =
    clipped-owner from to a x (clipped_all from to xs) xs low high (clipped_all-owner from to a xs low high)

-- what is clipped lies between the two addresses
pub clipped_all-between : (k from to low top : ℕ) (xs : List Span) → AreBetween low top xs → k ≤ to → k ≤ max from low → AreBetween k to (clipped_all from to xs)
clipped_all-between k from to low top [] between within before = within
clipped_all-between k from to low top (x ∷ xs) between within before = elim (either (max x.lo from) (min x.hi to)) [
  | inl some ↦
      let rest : AreBetween (min x.hi to) to (clipped_all from to xs) =
      clipped_all-between (min x.hi to) from to x.hi top xs between.2 (omega arith) (omega arith) in
      subst (λ (cs : List Span). AreBetween k to (cs ++ clipped_all from to xs)) (sym (clipped-some from to x some))
      (omega (arith, between.0, before), some, rest)
  | inr none ↦
      subst (λ (cs : List Span). AreBetween k to (cs ++ clipped_all from to xs)) (sym (clipped-none from to x none))
      (clipped_all-between k from to x.hi top xs between.2 within (omega (arith, between.0, between.1, before)))
]

-- nothing of spans that lie behind the two addresses, or in front of them
pub clipped_all-behind : (from to low top : ℕ) (xs : List Span) → AreBetween low top xs → to ≤ low → clipped_all from to xs ≡ []
clipped_all-behind from to low top [] between behind = refl
clipped_all-behind from to low top (x ∷ xs) between behind =
    ap (λ (cs : List Span). cs ++ clipped_all from to xs) (clipped-none from to x (omega (arith, between.0, behind)))
    ∙ clipped_all-behind from to x.hi top xs between.2 (omega (arith, between.0, between.1, behind))

clipped_all-before : (from to end : ℕ) (xs : List Span) → AllByRecursion (λ span. span.hi ≤ end) xs → end ≤ from → clipped_all from to xs ≡ []
clipped_all-before from to end [] ended before = refl
clipped_all-before from to end (x ∷ xs) ended before =
    ap (λ (cs : List Span). cs ++ clipped_all from to xs) (clipped-none from to x (omega (arith, ended.0, before)))
    ∙ clipped_all-before from to end xs ended.1 before

-- spans that were passed change nothing of what is laid over them behind their end
pub clipped_all-left : (from to end : ℕ) (below left : List Span) → IsLeft end below left → end ≤ from → clipped_all from to below ≡ clipped_all from to left
clipped_all-left from to end below left is before =
    ap (clipped_all from to) is.joined
    ∙ flat_map-append (clipped from to) is.passed left
    ∙ ap (λ (cs : List Span). cs ++ clipped_all from to left) (clipped_all-before from to end is.passed is.ended before)

pub overlaid-left : (from end top : ℕ) (above below left : List Span) → AreBetween from top above → IsLeft end below left → end ≤ from → overlaid from above below ≡ overlaid from above left
overlaid-left from end top [] below left between is before = clipped_all-left from (2 ^ 64 - 1) end below left is before
overlaid-left from end top (x ∷ above) below left between is before =
    ap (λ (cs : List Span). cs ++ x ∷ overlaid x.hi above below) (clipped_all-left from x.lo end below left is before)
    ∙ ap (λ (cs : List Span). clipped_all from x.lo left ++ x ∷ cs)
    (overlaid-left x.hi end top above below left between.2 is (omega (arith, before, between.0, between.1)))

-- one span more, and what lies in front of it
pub overlay-step : (from top : ℕ) (x : Span) (more below left out pushed all : List Span) → AreBetween from top (x ∷ more) → IsLeft x.lo below left → out ++ overlaid from (x ∷ more) below ≡ all
    → pushed ≡ out ++ clipped_all from x.lo below → (pushed ++ x ∷ []) ++ overlaid x.hi more left ≡ all
overlay-step from top x more below left out pushed all between is before pushes =
    ap (λ (cs : List Span). (pushed ++ x ∷ []) ++ cs) (sym (overlaid-left x.hi x.lo top more below left between.2 is (omega (arith, between.1))))
    ∙ append_assoc pushed (x ∷ []) (overlaid x.hi more below)
    ∙ ap (λ (cs : List Span). cs ++ x ∷ overlaid x.hi more below) pushes
    ∙ append_assoc out (clipped_all from x.lo below) (x ∷ overlaid x.hi more below)
    ∙ before

pub left-disjoint : (end : ℕ) (below left : List Span) → IsLeft end below left → AreDisjoint below → AreDisjoint left
left-disjoint end below left is disjoint =
    AreBetween-rest 0 (2 ^ 64 - 1) is.passed left (subst (λ (xs : List Span). AreBetween 0 (2 ^ 64 - 1) xs) is.joined disjoint)

pub overlaid-between : (from : ℕ) (above below : List Span) → AreBetween from (2 ^ 64 - 1) above → AreDisjoint below → AreBetween from (2 ^ 64 - 1) (overlaid from above below)
overlaid-between from [] below between disjoint =
    clipped_all-between from from (2 ^ 64 - 1) 0 (2 ^ 64 - 1) below disjoint between (omega arith)
overlaid-between from (x ∷ above) below between disjoint =
    AreBetween-append from x.lo (2 ^ 64 - 1) (clipped_all from x.lo below) (x ∷ overlaid x.hi above below)
    (clipped_all-between from from x.lo 0 (2 ^ 64 - 1) below disjoint between.0 (omega arith))
    (omega arith, between.1, overlaid-between x.hi above below between.2 disjoint)

-- behind the first address the spans above count before those below
pub overlaid-owner : (from a : ℕ) (above below : List Span) → AreBetween from (2 ^ 64 - 1) above → AreDisjoint below → from ≤ a → owner_at (overlaid from above below) a ≡ option_or (owner_at above a) (owner_at below a)
overlaid-owner from a [] below between disjoint behind = elim (either a (2 ^ 64 - 1)) [
  | inl within ↦ clipped_all-owner from (2 ^ 64 - 1) a below behind within
  | inr past ↦
      owner-behind from (2 ^ 64 - 1) a (clipped_all from (2 ^ 64 - 1) below)
      (clipped_all-between from from (2 ^ 64 - 1) 0 (2 ^ 64 - 1) below disjoint between (omega arith)) past
      ∙ sym (owner-behind 0 (2 ^ 64 - 1) a below disjoint past)
]
overlaid-owner from a (x ∷ above) below between disjoint behind = elim (either a x.lo) [
  | inl before ↦
      owner-append front (x ∷ overlaid x.hi above below) a
      ∙ ap (λ o. option_or o (owner_at (x ∷ overlaid x.hi above below) a)) (clipped_all-owner from x.lo a below behind before)
      ∙ ap (option_or (owner_at below a)) (owner-before x.lo (2 ^ 64 - 1) a (x ∷ overlaid x.hi above below) (omega arith, between.1, overlaid-between x.hi above below between.2 disjoint) before)
      ∙ or-none (owner_at below a)
      ∙ sym (ap (λ o. option_or o (owner_at below a)) (owner-before x.lo (2 ^ 64 - 1) a (x ∷ above) (omega arith, between.1, between.2) before))
  | inr at ↦
      owner-append front (x ∷ overlaid x.hi above below) a
      ∙ ap (λ o. option_or o (owner_at (x ∷ overlaid x.hi above below) a))
      (owner-behind from x.lo a front (clipped_all-between from from x.lo 0 (2 ^ 64 - 1) below disjoint between.0 (omega arith)) at)
      ∙ elim (either a x.hi) [
        | inl inside ↦ owner-hit x (overlaid x.hi above below) a (held x a at inside)
            ∙ sym (ap (λ o. option_or o (owner_at below a)) (owner-hit x above a (held x a at inside)))
        | inr past ↦ owner-miss x (overlaid x.hi above below) a (missed-behind x a past)
            ∙ overlaid-owner x.hi a above below between.2 disjoint past
            ∙ sym (ap (λ o. option_or o (owner_at below a)) (owner-miss x above a (missed-behind x a past)))
      ]
]
  where
    front : List Span
    front = clipped_all from x.lo below

    or-none : (o : Option ℕ) → option_or o None ≡ o
    or-none None = refl
    or-none (Some n) = refl

-- so laying one over another is putting one in front of the other
pub overlaid-is_append : (a : ℕ) (above below made : List Span) → AreDisjoint above → AreDisjoint below → made ≡ overlaid 0 above below → owner_at made a ≡ owner_at (above ++ below) a
overlaid-is_append a above below made disjoint_above disjoint_below is =
    ap (λ (xs : List Span). owner_at xs a) is
    ∙ overlaid-owner 0 a above below disjoint_above disjoint_below (omega arith)
    ∙ sym (owner-append above below a)

-- the span at a place, and those behind it
at_place : (from top i : ℕ) (xs : List Span) (x d : Span) → AreBetween from top xs → i < length xs → x ≡ get_or xs i d → AreBetween from top (x ∷ drop (suc i) xs)
at_place from top i xs x d between within is =
    AreBetween-rest from top (take i xs) (x ∷ drop (suc i) xs)
    (subst (λ (ys : List Span). AreBetween from top ys)
    (sym (take-append-drop i xs) ∙ ap (λ ys. take i xs ++ ys) (drop-cons xs i d within ∙ ap (λ y. y ∷ drop (suc i) xs) (sym is))) between)

clipped_all-split : (from to i : ℕ) (xs : List Span) → clipped_all from to xs ≡ clipped_all from to (take i xs) ++ clipped_all from to (drop i xs)
clipped_all-split from to i xs =
    ap (clipped_all from to) (sym (take-append-drop i xs)) ∙ flat_map-append (clipped from to) (take i xs) (drop i xs)

-- the first span that lies behind ends it,
pub pushed-end : (from to top i : ℕ) (xs old out : List Span) (x d : Span) → AreBetween 0 top xs → i < length xs → x ≡ get_or xs i d → to ≤ x.lo → out ≡ old ++ clipped_all from to (take i xs) → out ≡ old ++ clipped_all from to xs
pushed-end from to top i xs old out x d between within is behind so_far =
    let rest = at_place 0 top i xs x d between within is in
    let none : clipped_all from to (drop i xs) ≡ [] =
    ap (clipped_all from to) (drop-cons xs i d within ∙ ap (λ y. y ∷ drop (suc i) xs) (sym is))
    ∙ clipped_all-behind from to x.lo top (x ∷ drop (suc i) xs) (omega arith, rest.1, rest.2) behind
    in
    so_far ∙ ap (λ ys. old ++ ys) (sym (append-nil (clipped_all from to (take i xs))) ∙ ap (λ ys. clipped_all from to (take i xs) ++ ys) (sym none) ∙ sym (clipped_all-split from to i xs))

pub clipped_all-next : (from to i : ℕ) (xs : List Span) (x d : Span) → i < length xs → x ≡ get_or xs i d → clipped_all from to (take (suc i) xs) ≡ clipped_all from to (take i xs) ++ clipped from to x
clipped_all-next from to i xs x d within is =
    ap (clipped_all from to) (take-suc xs i d within ∙ ap (λ y. take i xs ++ y ∷ []) (sym is))
    ∙ flat_map-append (clipped from to) (take i xs) (x ∷ [])
    ∙ ap (λ ys. clipped_all from to (take i xs) ++ ys) (append-nil (clipped from to x))

-- one span more was clipped,
pub pushed-more : (from to i : ℕ) (xs old out pushed : List Span) (x d : Span) → i < length xs → x ≡ get_or xs i d → out ≡ old ++ clipped_all from to (take i xs) → pushed ≡ out ++ clipped from to x → pushed ≡ old ++ clipped_all from to (take (suc i) xs)
pushed-more from to i xs old out pushed x d within is so_far pushes =
    pushes ∙ ap (λ ys. ys ++ clipped from to x) so_far ∙ append_assoc old (clipped_all from to (take i xs)) (clipped from to x)
    ∙ ap (λ ys. old ++ ys) (sym (clipped_all-next from to i xs x d within is))

-- and where it reaches behind, it is the last.
pub pushed-cut : (from to top i : ℕ) (xs old pushed : List Span) (x d : Span) → AreBetween 0 top xs → i < length xs → x ≡ get_or xs i d → to < x.hi → pushed ≡ old ++ clipped_all from to (take (suc i) xs) → pushed ≡ old ++ clipped_all from to xs
pushed-cut from to top i xs old pushed x d between within is past so_far =
    let rest = at_place 0 top i xs x d between within is in
    let none : clipped_all from to (drop (suc i) xs) ≡ [] = clipped_all-behind from to x.hi top (drop (suc i) xs) rest.2 (omega (arith, past)) in
    so_far ∙ ap (λ ys. old ++ ys) (sym (append-nil (clipped_all from to (take (suc i) xs))) ∙ ap (λ ys. clipped_all from to (take (suc i) xs) ++ ys) (sym none) ∙ sym (clipped_all-split from to (suc i) xs))

pub left-at : (to i : ℕ) (xs : List Span) → i ≤ length xs → AllByRecursion (λ span. span.hi ≤ to) (take i xs) → IsLeft to xs (take (length xs - i) (drop i xs))
left-at to i xs within ended = record {
  passed = take i xs;
  joined = sym (take-append-drop i xs) ∙ ap (λ ys. take i xs ++ ys) (sym (take_all (length xs - i) (drop i xs) (omega (arith, length-drop i xs))));
  ended = ended;
}

pub left-none : (to i : ℕ) (xs : List Span) → length xs ≤ i → AllByRecursion (λ span. span.hi ≤ to) (take i xs) → IsLeft to xs []
left-none to i xs past ended = record {
  passed = take i xs;
  joined = sym (take_all i xs past) ∙ sym (append-nil (take i xs));
  ended = ended;
}

all-append : (to : ℕ) (xs : List Span) (x : Span) → AllByRecursion (λ span. span.hi ≤ to) xs → x.hi ≤ to → AllByRecursion (λ span. span.hi ≤ to) (xs ++ x ∷ [])
all-append to [] x ended last = (last, tt)
all-append to (y ∷ xs) x ended last = (ended.0, all-append to xs x ended.1 last)

pub ended-more : (to i : ℕ) (xs : List Span) (x d : Span) → i < length xs → x ≡ get_or xs i d → AllByRecursion (λ span. span.hi ≤ to) (take i xs) → x.hi ≤ to → AllByRecursion (λ span. span.hi ≤ to) (take (suc i) xs)
ended-more to i xs x d within is ended last =
    subst (λ (ys : List Span). AllByRecursion (λ span. span.hi ≤ to) ys)
    (sym (take-suc xs i d within ∙ ap (λ y. take i xs ++ y ∷ []) (sym is))) (all-append to (take i xs) x ended last)

pub overlay-disjoint : (above below made : List Span) → AreDisjoint above → AreDisjoint below → made ≡ overlaid 0 above below → AreDisjoint made
overlay-disjoint above below made over under is =
    subst (λ (xs : List Span). AreDisjoint xs) (sym is) (overlaid-between 0 above below over under)

-- two halves that have the owners of the halves of a list
pub overlay-owner : (a : ℕ) (above below made front back spans : List Span) (half : ℕ) → AreDisjoint above → AreDisjoint below → made ≡ overlaid 0 above below → owner_at above a ≡ owner_at front a
    → owner_at below a ≡ owner_at back a → front ≡ take half spans → back ≡ drop half spans → owner_at made a ≡ owner_at spans a
overlay-owner a above below made front back spans half over under is front_same back_same front_is back_is =
    overlaid-is_append a above below made over under is
    ∙ owner-append above below a
    ∙ ap (λ o. option_or o (owner_at below a)) front_same
    ∙ ap (option_or (owner_at front a)) back_same
    ∙ sym (owner-append front back a)
    ∙ ap (λ (xs : List Span). owner_at (xs ++ back) a) front_is
    ∙ ap (λ (xs : List Span). owner_at (take half spans ++ xs) a) back_is
    ∙ ap (λ (xs : List Span). owner_at xs a) (take-append-drop half spans)
