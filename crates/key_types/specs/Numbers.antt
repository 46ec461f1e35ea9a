-- Items by number: each once, at its place in the order in which they were added.
use Rattle.std.specs.Prelude.{◌≡◌, ◌≢◌, ◌↔◌, ℕ, List, [], ◌∷◌, ◌++◌, AllPairs, Contains, Some, slice_get, unwrap_or}
use Rattle.key_types.specs.declared.ids.NameId.{NameId}

-- No item has two numbers.
abbrev pub IsNumbered : {T : Type 0} → List T → Type 0
IsNumbered items = AllPairs (λ x y. x ≢ y) items

-- An item was added: it gets the next number where it has none yet, and all others keep theirs.
pub record Adds {T : Type 0} (old new : List T) (item : T) : Type 0 where
  pub known : Contains old item → new ≡ old
  pub next : ¬ Contains old item → new ≡ old ++ item ∷ []
  pub kept : (n : ℕ) (x : T) → slice_get old n ≡ Some x → slice_get new n ≡ Some x

-- Two items with numbers have the same number exactly where they are equal.
abbrev pub OneNumberEach : Type 0 → Type 0
OneNumberEach T =
    (items : List T) (m n : ℕ) (x y : T)
    → IsNumbered items → slice_get items m ≡ Some x → slice_get items n ≡ Some y → (m ≡ n) ↔ (x ≡ y)

-- The name of a number; a number that was not given has the empty name.
abbrev pub name_of : List (List ℕ) → NameId → List ℕ
name_of names id = unwrap_or (slice_get names id.0) []
