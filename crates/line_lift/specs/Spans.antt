-- Blocks with counts as spans.
use Rattle.std.specs.Prelude.{◌≡◌, ℕ, true, List}
use Rattle.std.specs.List.{flat_map}
use Rattle.address_spans.specs.Spans.{holds}
use Rattle.address_spans.specs.declared.span.Span.{Span}
use Rattle.block_model.specs.declared.parts.Block.{Block}
use Rattle.block_model.specs.Function.{Function}
use Rattle.output_model.specs.Lift.{counted_blocks}
use Rattle.profile_text.specs.Draft.{IsOneOf}
use Rattle.repair_model.specs.Repair.{Repair}

-- The blocks of functions that are repaired by counts, with these.
abbrev pub counted : List (Function × Repair) → List (Block × ℕ)
counted funs = flat_map (λ it. counted_blocks it.0 it.1.solution) funs

-- The addresses of a block, owned by its count.
abbrev pub span_of : Block × ℕ → Span
span_of (block, count) = record { lo = block.lo; hi = block.hi; owner = count }

-- The owner of one of some spans that holds an address.
abbrev pub IsOwnerOver : List Span → ℕ → ℕ → Type 0
IsOwnerOver spans address owner =
    (span : Span) × IsOneOf span spans × (holds address span ≡ true) × (span.owner ≡ owner)
