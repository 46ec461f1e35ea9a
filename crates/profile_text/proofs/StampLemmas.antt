-- Stamped items, with one item more.
use Rattle.std.proofs.Common.{◌≡◌, ◌↔◌, ℕ, ◌<◌, ◌≤◌, Bool, true, false, List, [], ◌∷◌, Some, length, refl, sym, ap, arith, ◌∙◌, inl, inr}
use Rattle.std.specs.Prelude.{◌==◌, slice_get, slice_index, Contains, if◌then◌else◌}
use Rattle.std.proofs.lemmas.Bool.{cases_lt, eqb-true, eqb-false}
use Rattle.std.proofs.lemmas.List.{get_or_past}
use Rattle.std.proofs.lemmas.Option.{slice_get_within, same_Some}
use Rattle.key_types.proofs.NumberLemmas.{one_number_each}
use Rattle.key_types.specs.Numbers.{IsNumbered}
use Rattle.profile_text.proofs.OpenLemmas.{kept_grows}
use Rattle.profile_text.proofs.SeenLemmas.{contains_at, at_contains, still_there}
use Rattle.profile_text.specs.Draft.{Kept, IsOneOf, AreStamped}
use Rattle.profile_text.specs.Stamps.{IsStamped}

-- more items with numbers; the stamp is not 0
pub stamped_grow : (T : Type 0) (items more : List T) (stamp : ℕ) (stamps : List ℕ) (done : List T)
    → AreStamped items stamp stamps done → 0 < stamp → Kept items more → IsNumbered more → AreStamped more stamp stamps done
stamped_grow T items more stamp stamps done are some kept apart = record {
  marked = λ k x at. elim (cases_lt k (length items)) [
    | inl within ↦ are.marked k x (still_there items more k x kept within at)
    | inr past ↦ (λ stamped. absurd (unstamped k past stamped), λ one. absurd (unknown k x at past (are.known x one)))
  ];
  known = λ x one. let there = are.known x one in contains_at more there.0 x (kept there.0 x (at_contains items x there.0 there.1 there.2));
  few = omega (arith, are.few, kept_grows items more kept);
}
  where
    unstamped : (k : ℕ) → length items ≤ k → slice_index stamps k ≡ stamp → ⊥
    unstamped k past stamped =
        let zero_there : slice_index stamps k ≡ 0 = get_or_past {X = ℕ} stamps k 0 (omega (arith, past, are.few)) in
        absurd (omega (arith, stamped, zero_there, some))

    unknown : (k : ℕ) (x : T) → slice_get more k ≡ Some x → length items ≤ k → Contains items x → ⊥
    unknown k x at past there =
        let same : there.0 ≡ k = (one_number_each more there.0 k x x apart (kept there.0 x (at_contains items x there.0 there.1 there.2)) at).1 refl in
        absurd (omega (arith, same, past, there.1))

pub stamped_more : (T : Type 0) (items : List T) (stamp : ℕ) (stamps after : List ℕ) (done : List T) (k : ℕ) (x : T)
    → AreStamped items stamp stamps done → IsNumbered items → slice_get items k ≡ Some x → IsStamped stamps k stamp after
    → AreStamped items stamp after (x ∷ done)
stamped_more T items stamp stamps after done k x are apart at is = record {
  marked = λ j y there. by_place j y there (j == k) refl (is.each j);
  known = λ y one. knows y one;
  few = omega (arith, is.len, are.few, slice_get_within items k x at);
}
  where
    knows : (y : T) → IsOneOf y (x ∷ done) → Contains items y
    knows y (inl same) = contains_at items k y (at ∙ ap Some (sym same))
    knows y (inr one) = are.known y one

    by_place : (j : ℕ) (y : T) → slice_get items j ≡ Some y → (b : Bool) → (j == k) ≡ b
        → slice_index after j ≡ (if b then stamp else slice_index stamps j)
        → (slice_index after j ≡ stamp) ↔ IsOneOf y (x ∷ done)
    by_place j y there true same value =
        let numbers : j ≡ k = eqb-true j k same in
        let items_are : y ≡ x = same_Some _ _ (sym there ∙ ap (slice_get items) numbers ∙ at) in
        (λ _. inl items_are, λ _. value)
    by_place j y there false differs value =
        (λ one. inr ((are.marked j y there).0 (sym value ∙ one)), λ one. value ∙ placed one)
      where
        placed : IsOneOf y (x ∷ done) → slice_index stamps j ≡ stamp
        placed (inl same) =
            let numbers : j ≡ k = (one_number_each items j k y x apart there at).1 same in
            absurd (eqb-false j k differs numbers)
        placed (inr one) = (are.marked j y there).1 one

-- none is done
pub stamped_none : {T : Type 0} (items : List T) (stamp : ℕ) (stamps : List ℕ) → ((n : ℕ) → slice_index stamps n < stamp) → length stamps ≤ length items
    → AreStamped items stamp stamps []
stamped_none items stamp stamps below few = record {
  marked = λ k x at. (λ stamped. absurd (omega (arith, stamped, below k)), λ one. absurd one);
  known = λ x one. absurd one;
  few = few;
}
