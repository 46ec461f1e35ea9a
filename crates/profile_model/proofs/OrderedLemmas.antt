-- Lists in an order, each item once.
use Rattle.std.proofs.Common.{◌≡◌, true, false, ◌||◌, List, [], ◌∷◌, refl, sym, ap, subst, ◌∙◌}
use Rattle.std.specs.List.{AllByRecursion}
use Rattle.std.specs.List.Sorted.{IsStrictlySortedBy}
use Rattle.std.specs.Cmp.{IsTotalOrder}
use Rattle.std.specs.declared.cmp.Ordering.{Ordering}
use Rattle.std.specs.declared.cmp.Ordering.TheVariants.{Less, Equal, Greater}
use Rattle.std.specs.Ordering.{is_eq, eq_by_cmp, ordering_reverse}
use Rattle.std.proofs.lemmas.Bool.{true≢false}
use Rattle.std.proofs.lemmas.Cmp.{tied_itself, alike_right}
use Rattle.list_lemmas.proofs.Tests.{or_swap, or_same}
use Rattle.profile_model.specs.Orders.{placed, with_item, ordered}
use Rattle.profile_model.specs.Laws.{TellsApart, has, OrderedIsInOrder, OnlyOrderedIsInOrder}

-- all items of a list stand behind x
abbrev pub Above : {T : Type 0} → (T → T → Ordering) → T → List T → Type 0
Above cmp x items = AllByRecursion (λ y. cmp x y ≡ Less) items

pub turned : {T : Type 0} (cmp : T → T → Ordering) → IsTotalOrder cmp → (x y : T) → cmp x y ≡ Greater → cmp y x ≡ Less
turned cmp o x y e = o.antisymm y x ∙ ap ordering_reverse e

pub has-below : {T : Type 0} (cmp : T → T → Ordering) (x : T) (items : List T) → Above cmp x items → has cmp x items ≡ false
has-below cmp x [] below = refl
has-below cmp x (y ∷ items) below = ap (λ b. is_eq b || has cmp x items) below.0 ∙ has-below cmp x items below.1

pub above-trans : {T : Type 0} (cmp : T → T → Ordering) → IsTotalOrder cmp → (x y : T) (items : List T) → cmp x y ≡ Less → Above cmp y items → Above cmp x items
above-trans cmp o x y [] first above = tt
above-trans cmp o x y (z ∷ items) first above = (o.trans x y z first above.0, above-trans cmp o x y items first above.1)

-- what holds of each item does so in any order
all_placed : {T : Type 0} (P : T → Type 0) (r : Ordering) (x y : T) (items more : List T) → P x → AllByRecursion P (y ∷ items) → AllByRecursion P more → AllByRecursion P (placed r x y items more)
all_placed P Less x y items more px all m = (px, all)
all_placed P Equal x y items more px all m = all
all_placed P Greater x y items more px all m = (all.0, m)

pub all_with_item : {T : Type 0} (P : T → Type 0) (cmp : T → T → Ordering) (x : T) (xs : List T) → P x → AllByRecursion P xs → AllByRecursion P (with_item cmp x xs)
all_with_item P cmp x [] px all = (px, tt)
all_with_item P cmp x (y ∷ xs) px all = all_placed P (cmp x y) x y xs (with_item cmp x xs) px all (all_with_item P cmp x xs px all.1)

pub all_ordered : {T : Type 0} (P : T → Type 0) (cmp : T → T → Ordering) (xs : List T) → AllByRecursion P xs → AllByRecursion P (ordered cmp xs)
all_ordered P cmp [] all = tt
all_ordered P cmp (x ∷ xs) all = all_with_item P cmp x (ordered cmp xs) all.0 (all_ordered P cmp xs all.1)

sorted-with_item : {T : Type 0} (cmp : T → T → Ordering) → IsTotalOrder cmp → (x : T) (items : List T) → IsStrictlySortedBy cmp items → IsStrictlySortedBy cmp (with_item cmp x items)
unfolding IsStrictlySortedBy
sorted-with_item cmp o x [] sorted = (tt, tt)
sorted-with_item cmp o x (y ∷ items) sorted =
    elim (cmp x y) as (λ r. cmp x y ≡ r → IsStrictlySortedBy cmp (placed r x y items (with_item cmp x items))) [
      | Less ↦ λ e. ((e, above-trans cmp o x y items e sorted.0), sorted)
      | Equal ↦ λ _. sorted
      | Greater ↦ λ e. (all_with_item (λ z. cmp y z ≡ Less) cmp x items (turned cmp o x y e) sorted.0, sorted-with_item cmp o x items sorted.1)
    ] refl

has-with_item : {T : Type 0} (cmp : T → T → Ordering) → IsTotalOrder cmp → (z x : T) (items : List T) → has cmp z (with_item cmp x items) ≡ (eq_by_cmp cmp z x || has cmp z items)
has-with_item cmp o z x [] = refl
has-with_item cmp o z x (y ∷ items) =
    elim (cmp x y) as (λ r. cmp x y ≡ r → has cmp z (placed r x y items (with_item cmp x items)) ≡ (eq_by_cmp cmp z x || has cmp z (y ∷ items))) [
      | Less ↦ λ _. refl
      | Equal ↦ λ e. or_same (eq_by_cmp cmp z y) (has cmp z items) ∙ ap (λ r. is_eq r || has cmp z (y ∷ items)) (sym (alike_right o x y z e))
      | Greater ↦ λ _. ap (λ b. eq_by_cmp cmp z y || b) (has-with_item cmp o z x items) ∙ or_swap (eq_by_cmp cmp z x) (eq_by_cmp cmp z y) (has cmp z items)
    ] refl

sorted-ordered : {T : Type 0} (cmp : T → T → Ordering) → IsTotalOrder cmp → (items : List T) → IsStrictlySortedBy cmp (ordered cmp items)
unfolding IsStrictlySortedBy
sorted-ordered cmp o [] = tt
sorted-ordered cmp o (x ∷ items) = sorted-with_item cmp o x (ordered cmp items) (sorted-ordered cmp o items)

has-ordered : {T : Type 0} (cmp : T → T → Ordering) → IsTotalOrder cmp → (z : T) (items : List T) → has cmp z (ordered cmp items) ≡ has cmp z items
has-ordered cmp o z [] = refl
has-ordered cmp o z (x ∷ items) = has-with_item cmp o z x (ordered cmp items) ∙ ap (λ b. eq_by_cmp cmp z x || b) (has-ordered cmp o z items)

pub ordered_is_in_order : {T : Type 0} → OrderedIsInOrder T
ordered_is_in_order cmp t items = record { ascending = sorted-ordered cmp t.total items; same = λ z. has-ordered cmp t.total z items }

pub has-head : {T : Type 0} (cmp : T → T → Ordering) → IsTotalOrder cmp → (x : T) (items : List T) → has cmp x (x ∷ items) ≡ true
has-head cmp o x items = ap (λ r. is_eq r || has cmp x items) (tied_itself o x)

has-before : {T : Type 0} (cmp : T → T → Ordering) → IsTotalOrder cmp → (x y : T) (items : List T) → cmp x y ≡ Less → Above cmp y items → has cmp x (y ∷ items) ≡ false
has-before cmp o x y items e above = has-below cmp x (y ∷ items) (e, above-trans cmp o x y items e above)

-- the lists behind equal first items have the same items
same_rest : {T : Type 0} (cmp : T → T → Ordering) → TellsApart cmp → (x : T) (items others : List T) → Above cmp x items → Above cmp x others → ((z : T) → has cmp z (x ∷ items) ≡ has cmp z (x ∷ others)) → (z : T) → has cmp z items ≡ has cmp z others
same_rest cmp t x items others above other_above same z =
    elim (cmp z x) as (λ r. cmp z x ≡ r → (is_eq r || has cmp z items) ≡ (is_eq r || has cmp z others) → has cmp z items ≡ has cmp z others) [
      | Less ↦ λ _ rest. rest
      | Equal ↦ λ e _.
          let here : x ≡ z = sym (t.apart z x e) in
          subst (λ y. has cmp y items ≡ has cmp y others) here (has-below cmp x items above ∙ sym (has-below cmp x others other_above))
      | Greater ↦ λ _ rest. rest
    ] refl (same z)

-- two ascending lists with the same items are equal
ascending_equal : {T : Type 0} (cmp : T → T → Ordering) → TellsApart cmp → (items others : List T) → IsStrictlySortedBy cmp items → IsStrictlySortedBy cmp others → ((z : T) → has cmp z items ≡ has cmp z others) → items ≡ others
unfolding IsStrictlySortedBy
ascending_equal cmp t [] [] s o same = refl
ascending_equal cmp t [] (y ∷ others) s o same = absurd (true≢false (sym (has-head cmp t.total y others) ∙ sym (same y)))
ascending_equal cmp t (x ∷ items) [] s o same = absurd (true≢false (sym (has-head cmp t.total x items) ∙ same x))
ascending_equal {T} cmp t (x ∷ items) (y ∷ others) s o same =
    elim (cmp x y) as (λ r. cmp x y ≡ r → x ∷ items ≡ y ∷ others) [
      | Less ↦ λ e. absurd (true≢false (sym (has-head cmp t.total x items) ∙ same x ∙ has-before cmp t.total x y others e o.0))
      | Equal ↦ λ e.
          let here : x ≡ y = t.apart x y e in
          let above : Above cmp x others = subst (λ z. Above cmp z others) (sym here) o.0 in
          let alike : (z : T) → has cmp z (x ∷ items) ≡ has cmp z (x ∷ others) = subst (λ w. (z : T) → has cmp z (x ∷ items) ≡ has cmp z (w ∷ others)) (sym here) same in
          ap (λ list. x ∷ list) (ascending_equal cmp t items others s.1 o.1 (same_rest cmp t x items others s.0 above alike))
          ∙ ap (λ z. z ∷ others) here
      | Greater ↦ λ e. absurd (true≢false (sym (has-head cmp t.total y others) ∙ sym (same y) ∙ has-before cmp t.total y x items (turned cmp t.total x y e) s.0))
    ] refl

pub only_ordered_is_in_order : {T : Type 0} → OnlyOrderedIsInOrder T
only_ordered_is_in_order cmp t items list is =
    ascending_equal cmp t list (ordered cmp items) is.ascending (sorted-ordered cmp t.total items) (λ z. is.same z ∙ sym (has-ordered cmp t.total z items))
