-- Spans of addresses.
use Rattle.std.specs.Prelude.{ℕ, ◌<◌, ◌≤◌, nat_lt, Bool, ◌&&◌, ⊤, List, [], ◌∷◌}
use Rattle.block_model.specs.declared.parts.Block.{Block}

-- The addresses of a block: from its first one to below the one behind its last.
abbrev pub span_of : Block → ℕ × ℕ
span_of block = (block.lo, block.hi)

-- A span from its first address to below its second holds an address from lo to below hi.
abbrev pub meets : ℕ → ℕ → ℕ × ℕ → Bool
meets lo hi span = nat_lt lo span.1 && nat_lt span.0 hi

-- Each span has addresses, and stands behind the one before.
abbrev pub AreApart : ℕ → List (ℕ × ℕ) → Type 0
AreApart from [] = ⊤
AreApart from (span ∷ spans) = (from ≤ span.0) × (span.0 < span.1) × AreApart span.1 spans
