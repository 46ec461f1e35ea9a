-- How far code reaches from each address on.
use Rattle.std.specs.Prelude.{◌≡◌, ◌+◌, ◌<◌, ◌&&◌, ℕ, List, [], ◌∷◌, max, nat_le, if◌then◌else◌}
use Rattle.std.specs.List.{list_any}
use Rattle.std.specs.List.Sorted.{IsNonDecreasingBy}
use Rattle.load_model.specs.declared.load_segment.LoadSegment.{LoadSegment}
use Rattle.elf_model.specs.Tables.{ProgramHeader}
use Rattle.elf_model.specs.Segments.{is_code, holds}
use Rattle.elf_sections.specs.declared.reach.Reach.{Reach}

-- Each of some segments with the farthest end of it and of those before it, which reach up to `far`.
abbrev pub reaches_from : ℕ → List LoadSegment → List Reach
reaches_from far [] = []
reaches_from far (load ∷ loads) =
    record { from = load.vaddr; end = max far (load.vaddr + load.size) }
    ∷ reaches_from (max far (load.vaddr + load.size)) loads

-- They are in the order of their addresses.
abbrev pub Rise : List Reach → Type 0
Rise reaches = IsNonDecreasingBy (λ reach. reach.from) reaches

-- The end at the last of them that begins at or before an address, and `far` where all begin behind it.
abbrev pub farthest : ℕ → List Reach → ℕ → ℕ
farthest far [] address = far
farthest far (reach ∷ reaches) address = if nat_le reach.from address then farthest reach.end reaches address else far

-- They tell of each range that does not end at 0 whether a segment of code holds it whole.
pub record AreReaches (segments : List ProgramHeader) (reaches : List Reach) : Type 0 where
  pub rise : Rise reaches
  pub told : (lo hi : ℕ) → 0 < hi
      → list_any (λ segment. is_code segment && holds lo hi segment) segments ≡ nat_le hi (farthest 0 reaches lo)
