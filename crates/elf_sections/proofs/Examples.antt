-- The definitions on worked values.
use Rattle.std.proofs.Common.{◌≡◌, ℕ, List, [], ◌∷◌, refl}
use Rattle.load_model.specs.declared.load_segment.LoadSegment.{LoadSegment}
use Rattle.elf_sections.specs.declared.reach.Reach.{Reach}
use Rattle.elf_sections.specs.Reach.{farthest, reaches_from}

load : ℕ → ℕ → LoadSegment
load vaddr size = record { offset = 0; vaddr = vaddr; size = size }

reach : ℕ → ℕ → Reach
reach from end = record { from = from; end = end }

-- The second of three segments lies within the first.
loads : List LoadSegment
loads = load 0x1000 0x100 ∷ load 0x1010 0x10 ∷ load 0x2000 0x10 ∷ []

made : reaches_from 0 loads ≡ reach 0x1000 0x1100 ∷ reach 0x1010 0x1100 ∷ reach 0x2000 0x2010 ∷ []
unfolding loads load reach
made = refl

ends : (farthest 0 (reaches_from 0 loads) 0xfff ≡ 0) × (farthest 0 (reaches_from 0 loads) 0x1018 ≡ 0x1100) × (farthest 0 (reaches_from 0 loads) 0x1fff ≡ 0x1100)
unfolding loads load
ends = (refl, refl, refl)
