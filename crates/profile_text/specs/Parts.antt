-- The parts of a text that are left.
use Rattle.std.specs.Prelude.{ℕ, List, [], Option, None, Some}
use Rattle.std.specs.Borrow.{Bor}
use Rattle.profile_model.specs.Reading.{parts_at}

-- The parts of what is left, and none where all were taken.
abbrev pub parts_left : ℕ → Option (Bor (List ℕ)) → List (List ℕ)
parts_left byte None = []
parts_left byte (Some text) = parts_at byte text.now
