-- The owner of an address, found by binary search.
use Rattle.std.proofs.Common.{◌≡◌, ℕ, zero, suc, ◌<◌, ◌≤◌, List, [], ◌∷◌, ◌++◌, None, Some, refl, sym, ap, ◌∙◌, arith, subst, length, take, drop, get_or, drop-cons, true, false, leb, leb-true, leb-false}
use Rattle.std.specs.Option.{option_or}
use Rattle.std.specs.List.Sorted.{IsNonDecreasingBy, IsPartitionPoint}
use Rattle.std.proofs.lemmas.List.{take-append-drop, take_all}
use Rattle.address_spans.specs.declared.span.Span.{Span}
use Rattle.address_spans.specs.Spans.{owner_at, AreBetween}
use Rattle.address_spans.proofs.SpanLemmas.{held, missed-behind, owner-hit, owner-miss, owner-append, owner-before, AreBetween-rest}

-- each span begins behind the ends of those before it
ends-rise_from : (from to : ℕ) (xs : List Span) → AreBetween from to xs → (j : ℕ) (d : Span) → j < length xs → from ≤ (get_or xs j d).hi
ends-rise_from from to [] between j d within = absurd (omega (arith, within))
ends-rise_from from to (x ∷ xs) between zero d within = omega (arith, between.0, between.1)
ends-rise_from from to (x ∷ xs) between (suc j) d within =
    omega (arith, between.0, between.1, ends-rise_from x.hi to xs between.2 j d (omega (arith, within)))

pub ends-rise : (from to : ℕ) (xs : List Span) → AreBetween from to xs → IsNonDecreasingBy (λ span. span.hi) xs
ends-rise from to [] between i j d before within = absurd (omega (arith, within))
ends-rise from to (x ∷ xs) between zero zero d before within = omega arith
ends-rise from to (x ∷ xs) between zero (suc j) d before within = ends-rise_from x.hi to xs between.2 j d (omega (arith, within))
ends-rise from to (x ∷ xs) between (suc i) zero d before within = absurd (omega (arith, before))
ends-rise from to (x ∷ xs) between (suc i) (suc j) d before within =
    ends-rise x.hi to xs between.2 i j d (omega (arith, before)) (omega (arith, within))

-- spans that end at or before an address do not hold it
pub none_held : (xs : List Span) (n a : ℕ) → ((k : ℕ) (d : Span) → k < n → k < length xs → (get_or xs k d).hi ≤ a) → owner_at (take n xs) a ≡ None
none_held [] zero a ended = refl
none_held [] (suc n) a ended = refl
none_held (x ∷ xs) zero a ended = refl
none_held (x ∷ xs) (suc n) a ended =
    owner-miss x (take n xs) a (missed-behind x a (ended 0 x (omega arith) (omega arith)))
    ∙ none_held xs n a (λ k d below within. ended (suc k) d (omega (arith, below)) (omega (arith, within)))

-- the spans before a place end at or before an address, and those from there on behind it
pub record IsFirstBehind (xs : List Span) (i a : ℕ) : Type 0 where
  pub ended : (k : ℕ) (d : Span) → k < i → k < length xs → (get_or xs k d).hi ≤ a
  pub behind : (k : ℕ) (d : Span) → i ≤ k → k < length xs → a < (get_or xs k d).hi

pub first_behind : (xs : List Span) (i a : ℕ) → IsPartitionPoint (λ span. leb span.hi a ≡ true) (λ span. leb span.hi a ≡ false) xs i → IsFirstBehind xs i a
first_behind xs i a point = record {
  ended = λ k d below within. leb-true _ _ (point.0 k d (omega arith) below);
  behind = λ k d from within. leb-false _ _ (point.1 k d from within);
}

split_at : (xs : List Span) (i : ℕ) (x d : Span) → i < length xs → x ≡ get_or xs i d → xs ≡ take i xs ++ x ∷ drop (suc i) xs
split_at xs i x d within is = sym (take-append-drop i xs) ∙ ap (λ ys. take i xs ++ ys) (drop-cons xs i d within ∙ ap (λ y. y ∷ drop (suc i) xs) (sym is))

pub search-hit : (from to a i : ℕ) (xs : List Span) (x d : Span) → AreBetween from to xs → i < length xs → x ≡ get_or xs i d → IsFirstBehind xs i a → x.lo ≤ a → owner_at xs a ≡ Some x.owner
search-hit from to a i xs x d between within is point low =
    ap (λ (ys : List Span). owner_at ys a) (split_at xs i x d within is)
    ∙ owner-append (take i xs) (x ∷ drop (suc i) xs) a
    ∙ ap (λ o. option_or o (owner_at (x ∷ drop (suc i) xs) a)) (none_held xs i a point.ended)
    ∙ owner-hit x (drop (suc i) xs) a (held x a low (omega (arith, point.behind i d (omega arith) within, ap (λ (s : Span). s.hi) is)))

pub search-miss : (from to a i : ℕ) (xs : List Span) (x d : Span) → AreBetween from to xs → i < length xs → x ≡ get_or xs i d → IsFirstBehind xs i a → a < x.lo → owner_at xs a ≡ None
search-miss from to a i xs x d between within is point before =
    let rest = AreBetween-rest from to (take i xs) (x ∷ drop (suc i) xs) (subst (λ (ys : List Span). AreBetween from to ys) (split_at xs i x d within is) between) in
    ap (λ (ys : List Span). owner_at ys a) (split_at xs i x d within is)
    ∙ owner-append (take i xs) (x ∷ drop (suc i) xs) a
    ∙ ap (λ o. option_or o (owner_at (x ∷ drop (suc i) xs) a)) (none_held xs i a point.ended)
    ∙ owner-before x.lo to a (x ∷ drop (suc i) xs) (omega arith, rest.1, rest.2) before

pub search-none : (a i : ℕ) (xs : List Span) → length xs ≤ i → IsFirstBehind xs i a → owner_at xs a ≡ None
search-none a i xs past point =
    ap (λ (ys : List Span). owner_at ys a) (sym (take_all i xs past)) ∙ none_held xs i a point.ended
