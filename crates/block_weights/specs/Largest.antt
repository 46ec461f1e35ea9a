-- The largest of some values that stand behind one another, and a tree of such.
use Rattle.std.specs.Prelude.{◌≡◌, ℕ, zero, suc, ◌+◌, ◌-◌, ◌*◌, ◌<◌, max, List, length, slice_index}

-- The largest of so many values from a place on; 0 where there are none.
abbrev pub largest_of : List ℕ → ℕ → ℕ → ℕ
largest_of values first zero = 0
largest_of values first (suc count) = max (slice_index values first) (largest_of values (suc first) count)

-- The largest of the values from one place on up to another.
abbrev pub largest_in : List ℕ → ℕ → ℕ → ℕ
largest_in values first end = largest_of values first (end - first)

-- The nodes of a tree: its leaves, so many, and behind them the larger one of each two nodes in their order, up to the
-- one that is above all.
pub record ArePairs (leaves : ℕ) (tree : List ℕ) : Type 0 where
  pub size : length tree ≡ 2 * leaves - 1
  pub larger : (pair : ℕ) → pair + 1 < leaves
      → slice_index tree (leaves + pair) ≡ max (slice_index tree (2 * pair)) (slice_index tree (2 * pair + 1))

-- A tree whose leaves are the largest values of so many runs of 16.
pub record IsTree (values : List ℕ) (runs : ℕ) (tree : List ℕ) : Type 0 where
  pub pairs : ArePairs runs tree
  pub leaves : (run : ℕ) → run < runs → slice_index tree run ≡ largest_in values (run * 16) (run * 16 + 16)
