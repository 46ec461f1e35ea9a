-- Functions whose places are asked for, by a mark for each member at its number. Where marks end, all are asked for.
use Rattle.std.specs.Prelude.{◌≡◌, ℕ, Bool, true, List, Option, None, Some, slice_index_or, if◌then◌else◌}
use Rattle.chain_model.specs.declared.member.Member.{Member}
use Rattle.chain_model.specs.Chains.{function_at, innermost}

-- A function is asked for.
abbrev pub is_asked : List Bool → ℕ → Bool
is_asked marks function = slice_index_or marks function true

-- The place of an address is asked for where the function that holds it is, and where none does.
abbrev pub asks : List Bool → Option ℕ → Bool
asks marks None = true
asks marks (Some function) = is_asked marks function

-- The innermost member of an address whose place is asked for.
abbrev pub innermost_asked : List Bool → List Member → ℕ → Option ℕ
innermost_asked marks members address =
    if asks marks (function_at members address) then innermost members address else None

-- What was asked for before is asked for still.
abbrev pub Keeps : List Bool → List Bool → Type 0
Keeps marks more = (function : ℕ) → is_asked marks function ≡ true → is_asked more function ≡ true
