-- Laws that tie the definitions to a second way of saying them.
use Rattle.std.specs.Prelude.{◌≡◌, ℕ, Bool, List}
use Rattle.std.specs.List.{list_any}
use Rattle.std.specs.List.Sorted.{IsStrictlySortedBy}
use Rattle.std.specs.Cmp.{IsTotalOrder}
use Rattle.std.specs.declared.cmp.Ordering.{Ordering}
use Rattle.std.specs.declared.cmp.Ordering.TheVariants.{Equal}
use Rattle.std.specs.Ordering.{eq_by_cmp}
use Rattle.profile_model.specs.Orders.{ordered, way_cmp, target_cmp}

-- An order in which any two items stand one before the other, and no two that differ stand equal.
pub record TellsApart {T : Type 0} (cmp : T → T → Ordering) : Type 0 where
  pub total : IsTotalOrder cmp
  pub apart : (x y : T) → cmp x y ≡ Equal → x ≡ y

-- Whether an item stands in a list.
abbrev pub has : {T : Type 0} → (T → T → Ordering) → T → List T → Bool
has cmp x items = list_any (eq_by_cmp cmp x) items

-- A list ascends and has the items of another.
pub record IsInOrder {T : Type 0} (cmp : T → T → Ordering) (items list : List T) : Type 0 where
  pub ascending : IsStrictlySortedBy cmp list
  pub same : (x : T) → has cmp x list ≡ has cmp x items

-- The orders of a profile tell apart, so its text is one.
abbrev pub OrdersTellApart : Type 0
OrdersTellApart = ((total : List ℕ → ℕ) → TellsApart (way_cmp total)) × TellsApart target_cmp

-- A list in order ascends and has the items that it was made of, and only that list does.
abbrev pub OrderedIsInOrder : Type 0 → Type 0
OrderedIsInOrder T =
    (cmp : T → T → Ordering) → TellsApart cmp → (items : List T) → IsInOrder cmp items (ordered cmp items)

abbrev pub OnlyOrderedIsInOrder : Type 0 → Type 0
OnlyOrderedIsInOrder T =
    (cmp : T → T → Ordering) → TellsApart cmp → (items list : List T) → IsInOrder cmp items list
    → list ≡ ordered cmp items
