-- What opening and reading the files of a store gives.
use Rattle.std.specs.Prelude.{◌≡◌, ℕ, Bool, List, [], ⊤, is_some, unwrap_or, Option, None, Some, Result, Ok, Err}

-- A store of files: the bytes of the file of each name that has one.
abbrev pub Store : Type 0
Store = List ℕ → Option (List ℕ)

-- `open(name)` of a told store answers whether it has a file of that name. Then all bytes of that file are left,
-- and nothing where there is none or the call failed.
abbrev pub Opens : {E : Type 0} → Option Store → List ℕ → Result Bool E → Option (List ℕ) → Type 0
Opens None name answer left = ⊤
Opens (Some store) name (Ok found) left =
    (found ≡ is_some (store name)) × (left ≡ Some (unwrap_or (store name) []))
Opens (Some store) name (Err e) left = left ≡ Some []
