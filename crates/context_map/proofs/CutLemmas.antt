-- The cuts between two addresses.
use Rattle.std.proofs.Common.{◌≡◌, ℕ, zero, suc, ◌+◌, ◌-◌, ◌<◌, ◌≤◌, true, false, List, [], ◌∷◌, Option, refl, sym, ap, ◌∙◌, arith, subst, length, take, drop, get_or, drop-cons, length-drop, inl, inr, ◌⊎◌, leb, ltb, leb-true, leb-false, ltb-true, ltb-false}
use Rattle.std.proofs.lemmas.List.{get_or-drop, take_all}
use Rattle.std.specs.List.Sorted.{IsStrictlyIncreasing, IsNonDecreasingBy, IsPartitionPoint}
use Rattle.std.proofs.lemmas.List.Kept.{AllPairs-from_increasing}
use Rattle.address_spans.proofs.OverlayLemmas.{either}
use Rattle.row_table.specs.Told.{AreCuts, NoneBetween}
use Rattle.context_map.specs.Parts.{IsCutUp}

-- where cuts lie: those before a place not above an address, those from there on behind it, the next ones before a bound, and
-- the others not
pub record Around (cuts : List ℕ) (lo hi i k : ℕ) : Type 0 where
  pub before : (j : ℕ) → j < i → j < length cuts → get_or cuts j 0 ≤ lo
  pub behind : (j : ℕ) → i ≤ j → j < length cuts → lo < get_or cuts j 0
  pub inside : (j : ℕ) → i ≤ j → j < i + k → j < length cuts → get_or cuts j 0 < hi
  pub past : (j : ℕ) → i + k ≤ j → j < length cuts → hi ≤ get_or cuts j 0

get_or-within : (xs : List ℕ) (k d e : ℕ) → k < length xs → get_or xs k d ≡ get_or xs k e
get_or-within [] k d e within = absurd (omega (arith, within))
get_or-within (x ∷ xs) zero d e within = refl
get_or-within (x ∷ xs) (suc k) d e within = get_or-within xs k d e (omega (arith, within))

-- no cut between, by the places of cuts
none_between : (cuts : List ℕ) (a b : ℕ) → ((j : ℕ) → j < length cuts → (get_or cuts j 0 ≤ a) ⊎ (b < get_or cuts j 0)) → NoneBetween a b cuts
none_between cuts a b each cut there =
    let is : get_or cuts there.0 0 ≡ cut = get_or-within cuts there.0 0 cut there.1 ∙ there.2 in
    elim (each there.0 there.1) [
      | inl low ↦ inl (omega (arith, low, is))
      | inr high ↦ inr (omega (arith, high, is))
    ]

ascend : (cuts : List ℕ) → IsStrictlyIncreasing cuts → (i j : ℕ) → i < j → j < length cuts → get_or cuts i 0 < get_or cuts j 0
ascend cuts rising i j less within = AllPairs-from_increasing cuts rising i j 0 less within

not_below : (cuts : List ℕ) → IsStrictlyIncreasing cuts → (i j : ℕ) → i ≤ j → j < length cuts → get_or cuts i 0 ≤ get_or cuts j 0
not_below cuts rising i j up within = elim (either i j) [
  | inl less ↦ omega (arith, ascend cuts rising i j less within)
  | inr back ↦ let same : i ≡ j = omega arith in omega (arith, ap (λ n. get_or cuts n 0) same)
]

pub non_decreasing : (cuts : List ℕ) → IsStrictlyIncreasing cuts → IsNonDecreasingBy (λ cut. cut) cuts
non_decreasing cuts rising i j d up within =
    omega (arith, not_below cuts rising i j up within, get_or-within cuts i 0 d (omega (arith, up, within)), get_or-within cuts j 0 d within)

Around-next : (cuts : List ℕ) (lo hi i k : ℕ) → IsStrictlyIncreasing cuts → i < length cuts → Around cuts lo hi i (suc k) → Around cuts (get_or cuts i 0) hi (suc i) k
Around-next cuts lo hi i k rising within around = record {
  before = λ j below there. not_below cuts rising j i (omega (arith, below)) within;
  behind = λ j from there. ascend cuts rising i j (omega (arith, from)) there;
  inside = λ j from below there. around.inside j (omega (arith, from)) (omega (arith, below)) there;
  past = λ j from there. around.past j (omega (arith, from)) there;
}

pub cut_up : {X : Type 0} (answer : ℕ → Option X) (cuts : List ℕ) (lo hi i k : ℕ) → AreCuts answer cuts → lo < hi → i + k ≤ length cuts → Around cuts lo hi i k → IsCutUp answer lo hi (take k (drop i cuts))
cut_up answer cuts lo hi i zero are on room around = (
  on,
  λ a low high. sym (are.same lo a low (none_between cuts lo a (λ j there. elim (either j i) [
    | inl below ↦ inl (around.before j below there)
    | inr from ↦ inr (let end = around.past j (omega (arith, from)) there in omega (arith, end, high))
  ]))),
)
cut_up answer cuts lo hi i (suc k) are on room around =
    let within : i < length cuts = omega (arith, room) in
    let cut = get_or cuts i 0 in
    let first : lo < get_or cuts i 0 = around.behind i (omega arith) within in
    let last : get_or cuts i 0 < hi = around.inside i (omega arith) (omega arith) within in
    subst (λ (left : List ℕ). IsCutUp answer lo hi (take (suc k) left)) (sym (drop-cons cuts i 0 within)) (
      first,
      λ a low high. sym (are.same lo a low (none_between cuts lo a (λ j there. elim (either j i) [
        | inl below ↦ inl (around.before j below there)
        | inr from ↦ inr (let up = not_below cuts are.ascending i j from there in omega (arith, up, high))
      ]))),
      cut_up answer cuts (get_or cuts i 0) hi (suc i) k are last (omega (arith, room)) (Around-next cuts lo hi i k are.ascending within around),
    )

-- by the points at which two searches part the cuts
pub around : (cuts : List ℕ) (lo hi i k : ℕ) → IsPartitionPoint (λ cut. leb cut lo ≡ true) (λ cut. leb cut lo ≡ false) cuts i → IsPartitionPoint (λ cut. ltb cut hi ≡ true) (λ cut. ltb cut hi ≡ false) (drop i cuts) k → Around cuts lo hi i k
around cuts lo hi i k first second = record {
  before = λ j below there. leb-true _ _ (first.0 j 0 (omega arith) below);
  behind = λ j from there. leb-false _ _ (first.1 j 0 from there);
  inside = λ j from below there.
      let here : ltb (get_or (drop i cuts) (j - i) 0) hi ≡ true = second.0 (j - i) 0 (omega arith) (omega (arith, from, below)) in
      let less : get_or (drop i cuts) (j - i) 0 < hi = ltb-true _ _ here in
      omega (arith, less, at j from);
  past = λ j from there.
      let here : ltb (get_or (drop i cuts) (j - i) 0) hi ≡ false = second.1 (j - i) 0 (omega (arith, from)) (omega (arith, from, there, length-drop i cuts)) in
      let more : hi ≤ get_or (drop i cuts) (j - i) 0 = ltb-false _ _ here in
      omega (arith, more, at j (omega (arith, from)));
}
  where
    at : (j : ℕ) → i ≤ j → get_or (drop i cuts) (j - i) 0 ≡ get_or cuts j 0
    at j from = get_or-drop i cuts (j - i) 0 ∙ ap (λ n. get_or cuts n 0) (let e : i + (j - i) ≡ j = omega (arith, from) in e)

pub all_behind : (cuts : List ℕ) (i : ℕ) → take (length cuts - i) (drop i cuts) ≡ drop i cuts
all_behind cuts i = take_all (length cuts - i) (drop i cuts) (omega (arith, length-drop i cuts))
