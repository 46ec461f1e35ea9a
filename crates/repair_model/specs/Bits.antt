-- The numbers that a repair text can tell.
use Rattle.std.specs.Prelude.{◌≡◌, ◌<◌, ◌^◌, ⊤, true, Option, None, Some}
use Rattle.block_model.specs.declared.parts.Weight.{Weight}
use Rattle.block_model.specs.declared.parts.Weight.TheVariants.{Unknown, Known}
use Rattle.block_model.specs.Limits.{bound_bits}
use Rattle.repair_model.specs.Line.{Line, fits_price}
use Rattle.repair_model.specs.Line.{begins_flow, begins_cut, tells_count, tells_sides, tells_edge, ends_flow, ends_cut}

-- A weight within its bits.
abbrev pub IsSmall : Weight → Type 0
IsSmall Unknown = ⊤
IsSmall (Known weight) = weight < 2 ^ bound_bits

-- A weight that may be missing, within its bits.
abbrev pub IsSmallIfTold : Option Weight → Type 0
IsSmallIfTold None = ⊤
IsSmallIfTold (Some weight) = IsSmall weight

-- Each number in a line is within the bits in which it is read.
-- Why: Without it `build` might write texts that `check` refuses. Prices of any size fit.
abbrev pub FitsBits : Line → Type 0
FitsBits (begins_flow name) = ⊤
FitsBits (begins_cut name root) = ⊤
FitsBits (tells_count number weight count enter leave) =
    (number < 2 ^ 64) × IsSmall weight × (count < 2 ^ 64) × (fits_price enter ≡ true) × (fits_price leave ≡ true)
FitsBits (tells_sides number weight enter leave) = (number < 2 ^ 64) × IsSmall weight
FitsBits (tells_edge from to weight count) =
    (from < 2 ^ 64) × (to < 2 ^ 64) × IsSmallIfTold weight × (count < 2 ^ 64)
FitsBits (ends_flow cost) = cost < 2 ^ 128
FitsBits (ends_cut least most) = (least < 2 ^ 128) × (most < 2 ^ 128)
