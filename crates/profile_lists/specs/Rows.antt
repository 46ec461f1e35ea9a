-- The rows of items: the beginnings of their ways, each once.
use Rattle.std.specs.Prelude.{◌≡◌, ◌⊎◌, ℕ, suc, ◌+◌, ◌-◌, ◌==◌, Bool, true, List, [], ◌∷◌, ◌++◌, map, filter, drop, length, replicate, cond, sum_by, Some, None}
use Rattle.std.specs.List.{AllZip, flat_map, last_or}
use Rattle.std.specs.Ordering.{eq_by_cmp}
use Rattle.profile_model.specs.Orders.{ordered}
use Rattle.profile_model.specs.Profile.{capped}
use Rattle.profile_model.specs.Ways.{beginnings, is_front}
use Rattle.profile_lists.specs.Ways.{step_cmp, way_cmp}
use Rattle.profile_lists.specs.declared.item.Item.{Item}
use Rattle.profile_lists.specs.declared.item.Step.{Step}
use Rattle.profile_lists.specs.declared.rows.Row.{Row}

-- How many items two lists have in common at their fronts.
abbrev pub shared : {T : Type 0} → (T → T → Bool) → List T → List T → ℕ
shared same [] list = 0
shared same (s ∷ rest) [] = 0
shared same (s ∷ rest) (t ∷ list) = cond (same s t) (suc (shared same rest list)) 0

-- Two steps are the same where neither comes first.
abbrev pub same_step : Step → Step → Bool
same_step = eq_by_cmp step_cmp

-- Whether the way of an item begins with a way.
abbrev pub leads_to : List Step → Item → Bool
leads_to front item = is_front same_step front item.way.items

-- The counts of the items whose ways begin with a way, added up.
abbrev pub count_below : List Item → List Step → ℕ
count_below items front = sum_by (λ item. item.count) (filter (leads_to front) items)

-- The same, which stands still at the end of 64 bits.
abbrev pub total_of : List Item → List Step → ℕ
total_of items front = capped (count_below items front)

-- The totals of the ways that the first of some items begins with.
abbrev pub sums_of : List Item → List ℕ
sums_of [] = []
sums_of (item ∷ items) = map (total_of (item ∷ items)) (beginnings item.way.items)

-- A row for each of some steps of an item, from a depth on, with their totals.
abbrev pub rows_along : Item → ℕ → List Step → List ℕ → List Row
rows_along item depth [] totals = []
rows_along item depth (step ∷ steps) [] = []
rows_along item depth (step ∷ steps) (total ∷ totals) =
    record { depth = depth; step = step; total = total; count = item.count; key = item.key }
    ∷ rows_along item (suc depth) steps totals

-- The rows of items that come behind a way: of each item's beginnings those that the way before it has not.
abbrev pub rows_behind : List Step → List Item → List Row
rows_behind before [] = []
rows_behind before (item ∷ items) =
    drop (shared same_step before item.way.items)
    (rows_along item 0 item.way.items (sums_of (item ∷ items)))
    ++ rows_behind item.way.items items

-- The way of the first of some items.
abbrev pub first_way : List Item → List Step
first_way [] = []
first_way (item ∷ items) = item.way.items

-- Numbers with zeros behind them, up to a length.
abbrev pub padded : ℕ → List ℕ → List ℕ
padded n numbers = numbers ++ replicate (n - length numbers) 0

-- Each number raised, up to the end of 64 bits.
abbrev pub raised : ℕ → List ℕ → List ℕ
raised count numbers = map (λ n. capped (n + count)) numbers

-- One of the items is such.
abbrev pub OneIs : (Item → Type 0) → List Item → Type 0
OneIs P [] = ⊥
OneIs P (item ∷ items) = P item ⊎ OneIs P items

-- The way of an item begins so, and a row tells of that item.
pub record Tells (front : List Step) (row : Row) (item : Item) : Type 0 where
  pub leads : leads_to front item ≡ true
  pub count : row.count ≡ item.count
  pub key : row.key ≡ item.key

-- The row of a beginning.
pub record IsRowOf (items : List Item) (front : List Step) (row : Row) : Type 0 where
  pub depth : suc row.depth ≡ length front
  pub last : last_or None front ≡ Some row.step
  pub total : row.total ≡ total_of items front
  pub told : OneIs (Tells front row) items

-- The ways of items.
abbrev pub ways_of : List Item → List (List Step)
ways_of items = map (λ item. item.way.items) items

-- The rows of items: one for each beginning of their ways, in order.
abbrev pub AreRowsOf : List Item → List Row → Type 0
AreRowsOf items rows = AllZip (IsRowOf items) (ordered way_cmp (flat_map beginnings (ways_of items))) rows

-- The way of the item before; before the first one, a way without steps.
abbrev pub way_before : List Item → ℕ → List Step
way_before items i = cond (i == 0) [] (first_way (drop (i - 1) items))
