-- What holds of spellings and of a cursor's moves, whatever the bytes.
use Rattle.std.specs.Prelude.{◌≡◌, ℕ, List, ◌++◌, Ok, slice_range}
use Rattle.byte_view.specs.Cursor.{Cursor, Passes, IsOver}
use Rattle.byte_view.specs.Reading.{Reading}

-- What is spelled is read, whatever follows it.
abbrev pub IsReadBack : {X : Type 0} → (List ℕ → X → Type 0) → (List ℕ → Reading X) → Type 0
IsReadBack {X = X} Spells reading =
    (bytes rest : List ℕ) (value : X) → Spells bytes value → reading (bytes ++ rest) ≡ Ok (value, rest)

-- The bytes begin with a spelling of the value, and the rest stands behind it.
pub record BeginsWith {X : Type 0} (Spells : List ℕ → X → Type 0)
    (bytes : List ℕ) (value : X) (rest : List ℕ) : Type 0 where
  pub front : List ℕ
  pub spelled : Spells front value
  pub parts : bytes ≡ front ++ rest

-- What is read begins with a spelling of what was read.
abbrev pub IsReadAsSpelled : {X : Type 0} → (List ℕ → X → Type 0) → (List ℕ → Reading X) → Type 0
IsReadAsSpelled {X = X} Spells reading =
    (bytes rest : List ℕ) (value : X) → reading bytes ≡ Ok (value, rest) → BeginsWith Spells bytes value rest

-- No spelling is a proper prefix of another, and one spelling spells one value.
abbrev pub IsPrefixFree : {X : Type 0} → (List ℕ → X → Type 0) → Type 0
IsPrefixFree {X = X} Spells =
    (a b x y : List ℕ) (m n : X) → Spells a m → Spells b n → a ++ x ≡ b ++ y → (a ≡ b) × (m ≡ n)

-- A cursor over a file stays over it, and the bytes that it passes are the file's bytes from its
-- place to the new one.
abbrev pub PassesBytesOfFile : Type 0
PassesBytesOfFile =
    (file bytes : List ℕ) (old new : Cursor) → IsOver file old → Passes old new bytes
    → IsOver file new × (bytes ≡ slice_range file old.at new.at)
