-- The counts of a summary.
use Rattle.std.specs.Prelude.{◌↔◌, ℕ, ◌*◌, ◌≤◌, nat_lt, ⊤, List, [], ◌∷◌, filter, map}
use Rattle.std.specs.List.{AllByRecursion}
use Rattle.profile_text.specs.declared.item.Item.{Item}
use Rattle.profile_text.specs.declared.item.What.{What}
use Rattle.profile_text.specs.declared.item.What.TheVariants.{Head, Count, Target}

-- The count that an item tells; heads and targets tell none.
abbrev pub count_by : What → ℕ → ℕ
count_by (Head name) times = 0
count_by (Count key) times = times
count_by (Target key name) times = 0

abbrev pub count_told : Item → ℕ
count_told item = count_by item.what item.times

-- The counts above 0 that items tell.
abbrev pub counts_told : List Item → List ℕ
counts_told items = filter (nat_lt 0) (map count_told items)

-- No number is above one before it.
abbrev pub Descend : List ℕ → Type 0
Descend [] = ⊤
Descend (x ∷ xs) = AllByRecursion (λ y. y ≤ x) xs × Descend xs

-- A sum makes up so many millionths of a total exactly where it is at least this share.
abbrev pub IsShare : ℕ → ℕ → ℕ → Type 0
IsShare total cutoff share = (sum : ℕ) → (share ≤ sum) ↔ (cutoff * total ≤ 1000000 * sum)
