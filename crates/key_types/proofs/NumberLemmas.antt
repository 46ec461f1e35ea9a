-- A set in the order of insertion, as items by number.
use Rattle.std.proofs.Common.{◌≡◌, ◌≢◌, ℕ, ◌<◌, Bool, true, false, cond, ◌||◌, List, [], ◌∷◌, ◌++◌, length, map, Some, refl, sym, ap, ◌∙◌, arith, length-append}
use Rattle.std.proofs.Math.ListN.{get_or-append}
use Rattle.std.proofs.lemmas.List.{map-append}
use Rattle.std.specs.Prelude.{Contains, slice_get}
use Rattle.std.specs.Bool.{Decides}
use Rattle.std.specs.List.{list_any, IsDistinct, AllByRecursion}
use Rattle.std.proofs.lemmas.Map.Keys.{any_passes_from_place, IsDistinct-cons, IsDistinct-head, IsDistinct-tail}
use Rattle.std.proofs.lemmas.Map.Made.{AllPairs-from_IsDistinct}
use Rattle.std.proofs.lemmas.Option.{slice_get_within, get_or_from_slice_get, slice_get-get_or, same_Some}
use Rattle.indexmap.specs.IndexSet.{insert_key}
use Rattle.indexmap.proofs.CallerLemmas.{Contains-list_any}
use Rattle.key_types.specs.Numbers.{Adds, IsNumbered, OneNumberEach}

module _ {V : Type 0} (eq : V → V → Bool) (same : (a b : V) → Decides (eq a b) (a ≡ b)) where
  list_any-Contains : (items : List V) (x : V) → Contains items x → list_any (eq x) items ≡ true
  list_any-Contains items x (i, within, is) =
      any_passes_from_place (eq x) items i x (slice_get-get_or items i x within ∙ ap Some is) ((same x x).1 refl)

  kept : (old more : List V) (n : ℕ) (y : V) → slice_get old n ≡ Some y → slice_get (old ++ more) n ≡ Some y
  kept old more n y is =
      let within : n < length old = slice_get_within old n y is in
      slice_get-get_or (old ++ more) n y (omega (arith, within, length-append old more))
      ∙ ap Some (get_or-append old more y n within ∙ get_or_from_slice_get old n y y is)

  by_answer : (b : Bool) (old : List V) (x : V) → list_any (eq x) old ≡ b → Adds old (cond b old (old ++ x ∷ [])) x
  by_answer true old x is = record { known = λ _. refl; next = λ absent. absurd (absent (Contains-list_any eq (λ a b. (same a b).0) old x is)); kept = λ _ _ there. there }
  by_answer false old x is = record {
    known = λ there. let found = list_any-Contains old x there in cc;
    next = λ _. refl;
    kept = λ n y there. kept old (x ∷ []) n y there;
  }

  pub adds : (old : List V) (x : V) → Adds old (insert_key eq old x) x
  adds old x = by_answer (list_any (eq x) old) old x refl

  pub numbered : (items : List V) → IsDistinct eq items → IsNumbered items
  numbered items distinct = AllPairs-from_IsDistinct same items distinct

-- the items as callers see them
module _ {T V : Type 0} (v : T → V) (eq : V → V → Bool) where
  list_any-map : (x : V) (items : List T) → list_any (λ y. eq x (v y)) items ≡ list_any (eq x) (map v items)
  list_any-map x [] = refl
  list_any-map x (y ∷ items) = ap (λ b. eq x (v y) || b) (list_any-map x items)

  choice-map : (b : Bool) (old : List T) (x : T) → map v (cond b old (old ++ x ∷ [])) ≡ cond b (map v old) (map v old ++ v x ∷ [])
  choice-map true old x = refl
  choice-map false old x = map-append v old (x ∷ [])

  pub insert_key-map : (old : List T) (x : T) → map v (insert_key (λ a b. eq (v a) (v b)) old x) ≡ insert_key eq (map v old) (v x)
  insert_key-map old x = choice-map (list_any (λ y. eq (v x) (v y)) old) old x ∙ ap (λ b. cond b (map v old) (map v old ++ v x ∷ [])) (list_any-map (v x) old)

  apart-map : (x : V) (items : List T) → AllByRecursion (λ y. eq x (v y) ≡ false) items → AllByRecursion (λ y. eq x y ≡ false) (map v items)
  apart-map x [] apart = tt
  apart-map x (y ∷ items) apart = (apart.0, apart-map x items apart.1)

  pub IsDistinct-map : (items : List T) → IsDistinct (λ a b. eq (v a) (v b)) items → IsDistinct eq (map v items)
  unfolding IsDistinct
  IsDistinct-map [] distinct = distinct
  IsDistinct-map (x ∷ items) distinct =
      IsDistinct-cons eq (v x) (map v items) (apart-map (v x) items (IsDistinct-head (λ a b. eq (v a) (v b)) x items distinct))
      (IsDistinct-map items (IsDistinct-tail (λ a b. eq (v a) (v b)) x items distinct))

-- of two places the earlier one has another item
apart-at : {T : Type 0} (items : List T) (m n : ℕ) (x y : T) → IsNumbered items → slice_get items m ≡ Some x → slice_get items n ≡ Some y → m < n → x ≢ y
apart-at items m n x y apart at_m at_n before =
    λ equal. apart m n x before (slice_get_within items n y at_n)
    (get_or_from_slice_get items m x x at_m ∙ equal ∙ sym (get_or_from_slice_get items n y x at_n))

-- the same number, exactly where the items are equal
pub one_number_each : {T : Type 0} → OneNumberEach T
one_number_each {T} items m n x y apart at_m at_n = (
  λ (same : m ≡ n). same_Some x y (sym at_m ∙ ap (slice_get items) same ∙ at_n),
  λ (equal : x ≡ y).
      let not_before : ¬ (m < n) = λ before. apart-at items m n x y apart at_m at_n before equal in
      let not_behind : ¬ (n < m) = λ behind. apart-at items n m y x apart at_n at_m behind (sym equal) in
      omega arith,
)
