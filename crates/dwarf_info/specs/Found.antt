-- A look-up of an entry.
use Rattle.std.specs.Prelude.{◌≡◌, ◌==◌, ℕ, List, Option, None, Some, position, slice_get}
use Rattle.unit_model.specs.Entries.{Entry}

-- The number is that of an entry that begins at an offset, and nothing is found exactly where none does.
abbrev pub FindsEntry : List Entry → ℕ → Option ℕ → Type 0
FindsEntry entries at None = position (λ entry. entry.at == at) entries ≡ None
FindsEntry entries at (Some number) = (entry : Entry) × (slice_get entries number ≡ Some entry) × (entry.at ≡ at)
