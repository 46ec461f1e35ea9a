-- Tables whose codes ascend.
use Rattle.std.proofs.Common.{◌≡◌, ◌<◌, ◌≤◌, ℕ, zero, suc, List, [], ◌∷◌, length, get_or, None, Some, Result, Ok, Err, Bool, true, false, ◌&&◌, inl, inr, refl, sym, arith, IsTrue, nat_cmp}
use Rattle.std.specs.Prelude.{◌==◌, position}
use Rattle.std.specs.List.{position_or_len}
use Rattle.std.specs.List.Sorted.{IsBinarySearchResult}
use Rattle.std.specs.Result.{result_ok}
use Rattle.std.proofs.lemmas.Bool.{cases_lt, le-ltb, lt-ltb, ltb-true, ne_eqb, eq-eqb}
use Rattle.std.proofs.lemmas.List.Sums.{position_or_len_is}
use Rattle.std.proofs.lemmas.List.Sorted.{searched}
use Rattle.dwarf_forms.specs.Table.{ascends}

and-left : (a b : Bool) → IsTrue (a && b) → IsTrue a
and-left true b h = refl
and-left false b h = h

and-right : (a b : Bool) → IsTrue (a && b) → IsTrue b
and-right true b h = h
and-right false b h = cc

tail-ascends : (x : ℕ) (xs : List ℕ) → IsTrue (ascends (x ∷ xs)) → IsTrue (ascends xs)
tail-ascends x [] h = refl
tail-ascends x (y ∷ rest) h = and-right _ _ h

first-below : (x y : ℕ) (xs : List ℕ) → IsTrue (ascends (x ∷ y ∷ xs)) → x < y
first-below x y xs h = ltb-true x y (and-left _ _ h)

above-first : (x : ℕ) (xs : List ℕ) → IsTrue (ascends (x ∷ xs)) → (k : ℕ) → k < length xs → x < get_or xs k 0
above-first x [] h k below = absurd (omega arith)
above-first x (y ∷ rest) h zero below = first-below x y rest h
above-first x (y ∷ rest) h (suc k) below =
    let first = first-below x y rest h in
    let more = above-first y rest (tail-ascends x (y ∷ rest) h) k (omega arith) in
    omega arith

rises : (xs : List ℕ) → IsTrue (ascends xs) → (i j : ℕ) → i < j → j < length xs → get_or xs i 0 < get_or xs j 0
rises [] h i j less below = absurd (omega arith)
rises (x ∷ xs) h i zero less below = absurd (omega arith)
rises (x ∷ xs) h zero (suc j) less below = above-first x xs h j (omega arith)
rises (x ∷ xs) h (suc i) (suc j) less below = rises xs (tail-ascends x xs h) i j (omega arith) (omega arith)

never-falls : (xs : List ℕ) → IsTrue (ascends xs) → (i j : ℕ) → i ≤ j → j < length xs → get_or xs i 0 ≤ get_or xs j 0
never-falls xs h i j less below =
    elim (cases_lt i j) [
      | inl before ↦ let risen = rises xs h i j before below in omega arith
      | inr not_before ↦ let same : i ≡ j = omega arith in rw same (omega arith)
    ]

-- where a binary search ends
position-found : (xs : List ℕ) (code i : ℕ) → IsTrue (ascends xs) → IsBinarySearchResult (λ y. nat_cmp y code) xs (Ok i)
    → position (λ other. other == code) xs ≡ Some i
position-found xs code i h is =
    let found = searched xs code (Ok i) is (never-falls xs h) in
    let here = found.0 in
    let place : position_or_len (λ other. other == code) xs ≡ i =
    position_or_len_is (λ other. other == code) xs i 0 (omega arith)
    (λ k below. let less = rises xs h k i below here in ne_eqb _ _ (λ same. omega (arith, found.1)))
    (λ there. eq-eqb _ _ found.1) in
    rw (place, lt-ltb i (length xs) here) refl

position-not_found : (xs : List ℕ) (code i : ℕ) → IsTrue (ascends xs) → IsBinarySearchResult (λ y. nat_cmp y code) xs (Err i)
    → position (λ other. other == code) xs ≡ None
position-not_found xs code i h is =
    let found = searched xs code (Err i) is (never-falls xs h) in
    let place : position_or_len (λ other. other == code) xs ≡ length xs =
    position_or_len_is (λ other. other == code) xs (length xs) 0 (omega arith)
    (λ k below. ne_eqb _ _ (λ same. elim (cases_lt k i) [
      | inl before ↦ omega (arith, found.1 k before, same)
      | inr not_before ↦ omega (arith, found.2 k not_before below, same)
    ]))
    (λ there. absurd (omega arith)) in
    rw (place, le-ltb (length xs) (length xs) (omega arith)) refl

pub position-searched : (xs : List ℕ) (code : ℕ) (r : Result ℕ ℕ) → IsTrue (ascends xs)
    → IsBinarySearchResult (λ y. nat_cmp y code) xs r → result_ok r ≡ position (λ other. other == code) xs
position-searched xs code (Ok i) h is = sym (position-found xs code i h is)
position-searched xs code (Err i) h is = sym (position-not_found xs code i h is)
