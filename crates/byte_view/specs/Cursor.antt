-- What callers see of a cursor, and what a read does to it.
use Rattle.std.specs.Prelude.{◌≡◌, ◌≤◌, ◌+◌, ℕ, List, ◌++◌, length, slice_range}

-- A place in the file, and the bytes from there to the end of the piece.
pub record Cursor : Type 0 where
  pub at : ℕ
  pub left : List ℕ

-- The cursor passed these bytes: they stood first of what was left, and its place is behind them.
pub record Passes (old new : Cursor) (bytes : List ℕ) : Type 0 where
  pub left : old.left ≡ bytes ++ new.left
  pub at : new.at ≡ old.at + length bytes

-- The cursor passed bytes that spell this value.
pub record Reads {X : Type 0} (Spells : List ℕ → X → Type 0) (old new : Cursor) (value : X) : Type 0 where
  pub bytes : List ℕ
  pub spelled : Spells bytes value
  pub passed : Passes old new bytes

-- What is left are the bytes of this file from the cursor's place.
pub record IsOver (file : List ℕ) (cur : Cursor) : Type 0 where
  pub inside : cur.at + length cur.left ≤ length file
  pub bytes : cur.left ≡ slice_range file cur.at (cur.at + length cur.left)
