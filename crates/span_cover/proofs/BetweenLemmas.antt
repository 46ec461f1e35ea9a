-- The spans between two addresses.
use Rattle.std.proofs.Common.{◌≡◌, ℕ, zero, suc, ◌-◌, ◌<◌, ◌≤◌, true, false, ltb, ltb-false, subst, length-drop, List, [], ◌∷◌, None, sym, ap, ◌∙◌, arith, length, take, drop, get_or}
use Rattle.std.specs.Option.{option_or}
use Rattle.std.specs.List.Sorted.{IsNonDecreasingBy, IsPartitionPoint}
use Rattle.std.proofs.lemmas.List.{take-append-drop, take_all}
use Rattle.std.proofs.Math.Seq.{drop-nil}
use Rattle.address_spans.specs.declared.span.Span.{Span}
use Rattle.address_spans.specs.Spans.{owner_at, AreBetween}
use Rattle.address_spans.proofs.SpanLemmas.{missed-before, owner-miss, owner-append}
use Rattle.address_spans.proofs.SearchLemmas.{IsFirstBehind, none_held}
use Rattle.span_cover.proofs.CoverLemmas.{or-none}

starts-rise_from : (from to : ℕ) (xs : List Span) → AreBetween from to xs → (j : ℕ) (d : Span) → j < length xs → from ≤ (get_or xs j d).lo
starts-rise_from from to [] between j d within = absurd (omega (arith, within))
starts-rise_from from to (x ∷ xs) between zero d within = omega (arith, between.0)
starts-rise_from from to (x ∷ xs) between (suc j) d within =
    omega (arith, between.0, between.1, starts-rise_from x.hi to xs between.2 j d (omega (arith, within)))

pub starts-rise : (from to : ℕ) (xs : List Span) → AreBetween from to xs → IsNonDecreasingBy (λ span. span.lo) xs
starts-rise from to [] between i j d before within = absurd (omega (arith, within))
starts-rise from to (x ∷ xs) between zero zero d before within = omega arith
starts-rise from to (x ∷ xs) between zero (suc j) d before within = omega (arith, between.1, starts-rise_from x.hi to xs between.2 j d (omega (arith, within)))
starts-rise from to (x ∷ xs) between (suc i) zero d before within = absurd (omega (arith, before))
starts-rise from to (x ∷ xs) between (suc i) (suc j) d before within =
    starts-rise x.hi to xs between.2 i j d (omega (arith, before)) (omega (arith, within))

none-past : (xs : List Span) (n a : ℕ) → ((k : ℕ) (d : Span) → n ≤ k → k < length xs → a < (get_or xs k d).lo) → owner_at (drop n xs) a ≡ None
none-past [] n a begun = ap (λ (ys : List Span). owner_at ys a) (drop-nil n)
none-past (x ∷ xs) zero a begun =
    owner-miss x xs a (missed-before x a (begun 0 x (omega arith) (omega arith)))
    ∙ none-past xs zero a (λ k d from within. begun (suc k) d (omega arith) (omega (arith, within)))
none-past (x ∷ xs) (suc n) a begun = none-past xs n a (λ k d from within. begun (suc k) d (omega (arith, from)) (omega (arith, within)))

-- of spans those between a place and another are left
pub cut : (xs : List Span) (i k a : ℕ) → ((j : ℕ) (d : Span) → j < i → j < length xs → (get_or xs j d).hi ≤ a)
    → ((j : ℕ) (d : Span) → k ≤ j → j < length (drop i xs) → a < (get_or (drop i xs) j d).lo)
    → owner_at (take k (drop i xs)) a ≡ owner_at xs a
cut xs i k a ended begun =
    sym (or-none (owner_at (take k (drop i xs)) a))
    ∙ ap (option_or (owner_at (take k (drop i xs)) a)) (sym (none-past (drop i xs) k a begun))
    ∙ sym (owner-append (take k (drop i xs)) (drop k (drop i xs)) a)
    ∙ ap (λ (ys : List Span). owner_at ys a) (take-append-drop k (drop i xs))
    ∙ ap (λ o. option_or o (owner_at (drop i xs) a)) (sym (none_held xs i a ended))
    ∙ sym (owner-append (take i xs) (drop i xs) a)
    ∙ ap (λ (ys : List Span). owner_at ys a) (take-append-drop i xs)

-- all from a place on
pub rest : (xs : List Span) (i : ℕ) → take (length xs - i) (drop i xs) ≡ drop i xs
rest xs i = take_all (length xs - i) (drop i xs) (omega (arith, length-drop i xs))

-- by the points at which two searches part the spans
pub between-owner : (xs : List Span) (lo hi i k a : ℕ) → IsFirstBehind xs i lo → IsPartitionPoint (λ span. ltb span.lo hi ≡ true) (λ span. ltb span.lo hi ≡ false) (take (length xs - i) (drop i xs)) k
    → lo ≤ a → a < hi → owner_at (take k (take (length xs - i) (drop i xs))) a ≡ owner_at xs a
between-owner xs lo hi i k a first second low high =
    ap (λ (ys : List Span). owner_at (take k ys) a) (rest xs i)
    ∙ cut xs i k a (λ j d before within. omega (arith, low, first.ended j d before within))
    (λ j d from within. omega (arith, high, ltb-false _ _ (behind.1 j d from within)))
  where
    behind : IsPartitionPoint (λ span. ltb span.lo hi ≡ true) (λ span. ltb span.lo hi ≡ false) (drop i xs) k
    behind = subst (λ (ys : List Span). IsPartitionPoint (λ span. ltb span.lo hi ≡ true) (λ span. ltb span.lo hi ≡ false) ys k) (rest xs i) second
