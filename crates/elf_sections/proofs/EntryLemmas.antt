-- One entry of a table.
use Rattle.std.proofs.Common.{◌≡◌, ℕ, zero, suc, ◌+◌, ◌*◌, ◌<◌, ◌≤◌, Some, None, ap, ◌∙◌, refl, arith}
use Rattle.std.specs.Prelude.{slice_get}
use Rattle.elf_model.specs.Tables.{entries}

-- The entry at an index within the table.
pub get-within : {E : Type 0} (entry_at : ℕ → E) (size at n i : ℕ) → i < n → slice_get (entries entry_at size at n) i ≡ Some (entry_at (at + size * i))
get-within entry_at size at zero i lt = absurd (omega arith)
get-within entry_at size at (suc n) zero lt = ap (λ (k : ℕ). Some (entry_at k)) (omega arith)
get-within entry_at size at (suc n) (suc i) lt =
    get-within entry_at size (at + size) n i (omega arith) ∙ ap (λ (k : ℕ). Some (entry_at k)) (grind arith)

-- There is none behind the table.
pub get-behind : {E : Type 0} (entry_at : ℕ → E) (size at n i : ℕ) → n ≤ i → slice_get (entries entry_at size at n) i ≡ None
get-behind entry_at size at zero i le = refl
get-behind entry_at size at (suc n) zero le = absurd (omega arith)
get-behind entry_at size at (suc n) (suc i) le = get-behind entry_at size (at + size) n i (omega arith)

-- An entry of a table ends within it.
pub ends-within : (size n i : ℕ) → i < n → size * i + size ≤ size * n
ends-within size n i lt = grind arith

pub ruleset entry_lemmas = (get-within, get-behind, ends-within)
