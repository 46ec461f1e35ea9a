-- The functions that have a line: those that were entered, and those of keys with a count or a target.
use Rattle.std.specs.Prelude.{◌≡◌, ◌≤◌, ℕ, ◌+◌, ◌==◌, nat_lt, Bool, not, List, [], ◌∷◌, ◌++◌, cond, filter, map, slice_index}
use Rattle.std.specs.List.{AllByRecursion, list_any}
use Rattle.key_types.specs.declared.key.Key.{Key}
use Rattle.profile_text.specs.Numbers.{HasKey, root_of}
use Rattle.profile_text.specs.declared.item.Item.{Item}

-- The keys of numbers were given.
abbrev pub HaveKeys : ℕ → List Item → Type 0
HaveKeys keys items = AllByRecursion (λ item. HasKey keys item.what) items

-- The functions of the numbers above 0.
abbrev pub roots : List Key → List Item → List ℕ
roots keys items = map (λ item. root_of keys item.what) (filter (λ item. nat_lt 0 item.times) items)

-- A number stands in a list.
abbrev pub stands : ℕ → List ℕ → Bool
stands n ns = list_any (λ m. n == m) ns

-- How many different numbers stand in a list.
abbrev pub different : List ℕ → ℕ
different [] = 0
different (n ∷ ns) = cond (stands n ns) 0 1 + different ns

-- Those numbers have marks that stand in a list.
abbrev pub AreMarked : List ℕ → List ℕ → Type 0
AreMarked seen ns = (k : ℕ) → (slice_index seen k == 0) ≡ not (stands k ns)

-- The function of an item, if it has one, is one more unless it was marked, and then it is marked.
pub record CountsRoot (keys : List Key) (item : Item) (more : ℕ) (seen after : List ℕ) : Type 0 where
  pub few : more ≤ 1
  pub counts : (ns : List ℕ) → AreMarked seen ns → different (ns ++ roots keys (item ∷ [])) ≡ different ns + more
  pub marks : (ns : List ℕ) → AreMarked seen ns → AreMarked after (ns ++ roots keys (item ∷ []))
