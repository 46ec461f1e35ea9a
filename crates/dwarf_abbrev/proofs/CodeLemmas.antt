-- The places of codes, with one code more.
use Rattle.std.proofs.Common.{◌≡◌, ◌≢◌, ℕ, ◌-◌, ◌<◌, true, false, cond, List, [], ◌∷◌, ◌++◌, length, None, Some, sym, subst, ap, ◌∙◌, arith, inl, inr}
use Rattle.std.specs.Prelude.{◌==◌}
use Rattle.std.specs.Ordering.{nat_cmp}
use Rattle.std.specs.BTreeMap.{BTreeMap, get}
use Rattle.std.proofs.lemmas.Bool.{ne_eqb, cases_eq, cases_lt, cases_Bool}
use Rattle.std.proofs.lemmas.Bool.Decides.{nat_tests}
use Rattle.std.proofs.lemmas.List.{length-append, get_or_append_left, get_or_at}
use Rattle.std.proofs.lemmas.List.Folds.{position_or_len_push}
use Rattle.std.proofs.lemmas.List.Sums.{prefix_len-le-length}
use Rattle.dwarf_abbrev.specs.Codes.{in_order, place_of, IsIndex}

place_of-other : (codes : List ℕ) (x c : ℕ) → x ≢ c → place_of (codes ++ x ∷ []) c ≡ place_of codes c
place_of-other codes x c apart =
    let e = position_or_len_push (λ k. k == c) codes x in
    let t : (x == c) ≡ false = ne_eqb x c apart in
    let b = prefix_len-le-length (λ k. cond (k == c) false true) codes in
    let n = length-append codes (x ∷ []) in
    grind (arith, nat_tests)

place_of-new : (codes : List ℕ) (c : ℕ) → place_of codes c ≡ None → place_of (codes ++ c ∷ []) c ≡ Some (length codes)
place_of-new codes c fresh =
    let e = position_or_len_push (λ k. k == c) codes c in
    let b = prefix_len-le-length (λ k. cond (k == c) false true) codes in
    let n = length-append codes (c ∷ []) in
    grind (arith, nat_tests)

in_order-other : (codes : List ℕ) (x c : ℕ) → x ≢ c → in_order (codes ++ x ∷ []) c ≡ in_order codes c
in_order-other codes x c apart =
    let n = length-append codes (x ∷ []) in
    elim (cases_lt (c - 1) (length codes)) [
      | inl within ↦
          let e = get_or_append_left codes (x ∷ []) 0 (c - 1) within in
          grind (arith, nat_tests)
      | inr behind ↦ elim (cases_eq (c - 1) (length codes)) [
        | inl at ↦
            let e = get_or_at codes x [] 0 (c - 1) (sym at) in
            grind (arith, nat_tests)
        | inr past ↦ grind (arith, nat_tests)
      ]
    ]

in_order-new : (codes : List ℕ) (c : ℕ) → 0 < c → c - 1 ≡ length codes → in_order (codes ++ c ∷ []) c ≡ true
in_order-new codes c some is =
    let n = length-append codes (c ∷ []) in
    let at = get_or_at codes c [] 0 (c - 1) (sym is) in
    grind (arith, nat_tests)

in_order-apart : (codes : List ℕ) (c : ℕ) → in_order codes c ≡ false → c - 1 ≢ length codes → in_order (codes ++ c ∷ []) c ≡ false
in_order-apart codes c not apart =
    let n = length-append codes (c ∷ []) in
    elim (cases_lt (c - 1) (length codes)) [
      | inl within ↦
          let e = get_or_append_left codes (c ∷ []) 0 (c - 1) within in
          grind (arith, nat_tests)
      | inr behind ↦ grind (arith, nat_tests)
    ]

-- a new code is not in its order among the old ones
not_in_order : (codes : List ℕ) (others : BTreeMap ℕ ℕ) (x : ℕ) → IsIndex codes others → place_of codes x ≡ None → in_order codes x ≡ false
not_in_order codes others x index fresh =
    elim (cases_Bool (in_order codes x)) [
      | inl is ↦ let e : place_of codes x ≡ Some (x - 1) = index.places x ∙ ap (λ b. cond b (Some (x - 1)) (get nat_cmp others x)) is in absurd cc
      | inr not ↦ not
    ]

place_when : (codes : List ℕ) (others : BTreeMap ℕ ℕ) (x c : ℕ) → IsIndex codes others → x ≢ c
    → place_of (codes ++ x ∷ []) c ≡ cond (in_order (codes ++ x ∷ []) c) (Some (c - 1)) (get nat_cmp others c)
place_when codes others x c index apart =
    place_of-other codes x c apart ∙ index.places c ∙ ap (λ b. cond b (Some (c - 1)) (get nat_cmp others c)) (sym (in_order-other codes x c apart))

-- a code in its order
pub IsIndex-in_order : (codes : List ℕ) (others : BTreeMap ℕ ℕ) (x : ℕ) → IsIndex codes others → place_of codes x ≡ None → 0 < x → x - 1 ≡ length codes → IsIndex (codes ++ x ∷ []) others
IsIndex-in_order codes others x index fresh some is = record {
  places = λ c. elim (cases_eq x c) [
    | inl same ↦
        let here : place_of (codes ++ x ∷ []) x ≡ cond (in_order (codes ++ x ∷ []) x) (Some (x - 1)) (get nat_cmp others x) =
        place_of-new codes x fresh ∙ ap Some (sym is) ∙ ap (λ b. cond b (Some (x - 1)) (get nat_cmp others x)) (sym (in_order-new codes x some is)) in
        subst (λ (q : ℕ). place_of (codes ++ x ∷ []) q ≡ cond (in_order (codes ++ x ∷ []) q) (Some (q - 1)) (get nat_cmp others q)) same here
    | inr apart ↦ place_when codes others x c index apart
  ];
}

-- a code that is not, and that the map has
pub IsIndex-other : (codes : List ℕ) (others more : BTreeMap ℕ ℕ) (x : ℕ) → IsIndex codes others → place_of codes x ≡ None → x - 1 ≢ length codes
    → get nat_cmp more x ≡ Some (length codes) → ((q : ℕ) → x ≢ q → get nat_cmp more q ≡ get nat_cmp others q) → IsIndex (codes ++ x ∷ []) more
IsIndex-other codes others more x index fresh out at keeps = record {
  places = λ c. elim (cases_eq x c) [
    | inl same ↦
        let here : place_of (codes ++ x ∷ []) x ≡ cond (in_order (codes ++ x ∷ []) x) (Some (x - 1)) (get nat_cmp more x) =
        place_of-new codes x fresh ∙ sym at
        ∙ ap (λ b. cond b (Some (x - 1)) (get nat_cmp more x)) (sym (in_order-apart codes x (not_in_order codes others x index fresh) out)) in
        subst (λ (q : ℕ). place_of (codes ++ x ∷ []) q ≡ cond (in_order (codes ++ x ∷ []) q) (Some (q - 1)) (get nat_cmp more q)) same here
    | inr apart ↦
        place_when codes others x c index apart ∙ ap (λ o. cond (in_order (codes ++ x ∷ []) c) (Some (c - 1)) o) (sym (keeps c apart))
  ];
}
