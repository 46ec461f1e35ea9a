-- What networks in coarser units show of the network.
use Rattle.std.specs.Prelude.{◌≡◌, ℕ, ◌+◌, ◌*◌, ◌^◌, ◌≤◌, Bool, ◌/◌, ◌⊎◌, map, ℤ}
use Rattle.std.specs.List.{All}
use Rattle.std.specs.Option.{option_map}
use Rattle.flow_model.specs.declared.arc.Arc.{Arc}
use Rattle.flow_model.specs.Circulation.{IsWithin}
use Rattle.flow_model.specs.Cut.{IsCut}
use Rattle.flow_model.specs.Network.{Network, arcs_of, free_arc}
use Rattle.flow_model.specs.Prices.{FitsOn}
use Rattle.flow_model.specs.Sound.{IsNet, IsSoundUpper}
use Rattle.residual_model.specs.Residual.{starting}
use Rattle.scaling_model.specs.Coarse.{coarse}
use Rattle.scaling_model.specs.Refining.{refined, rise_on}

-- Half of a number, rounded up.
abbrev pub half_up : ℕ → ℕ
half_up n = (n + 1) / 2

-- An arc in units of twice the size.
abbrev pub halved_arc : Arc → Arc
halved_arc arc = record arc {
  lower = arc.lower / 2;
  upper = option_map half_up arc.upper;
  weight = half_up arc.weight;
}

-- A network in units of twice the size.
abbrev pub halved : Network → Network
halved net = record net { blocks = map halved_arc net.blocks; edges = map halved_arc net.edges }

-- In units of 1 a network is as it was, and each further shift halves it.
abbrev pub ShiftsHalve : Type 0
ShiftsHalve =
    (net : Network) → (coarse 0 net ≡ net) × ((shift : ℕ) → coarse (shift + 1) net ≡ halved (coarse shift net))

-- In coarser units the network of a function is the network of a function.
abbrev pub CoarseNetsAreNets : Type 0
CoarseNetsAreNets = (shift : ℕ) (net : Network) → IsNet net → IsNet (coarse shift net)

-- A cut in coarser units is a cut.
abbrev pub CoarseCutsAreCuts : Type 0
CoarseCutsAreCuts =
    (shift : ℕ) (net : Network) (set : ℕ → Bool) → IsNet net → IsCut set (arcs_of (coarse shift net))
    → IsCut set (arcs_of net)

-- Where no count to start from is above 2^(shift + bits), none is above 2^bits in units of 2^shift.
abbrev pub CoarseStartsAreSmall : Type 0
CoarseStartsAreSmall =
    (shift bits : ℕ) (net : Network) → IsNet net → All (λ arc. starting arc ≤ 2 ^ (shift + bits)) (arcs_of net)
    → All (λ arc. starting arc ≤ 2 ^ bits) (arcs_of (coarse shift net))

-- An arc is halved; or it costs nothing and lets any count from 0 or 1 on through, in units of any size.
abbrev pub IsHalfOf : Arc → Arc → Type 0
IsHalfOf half arc =
    (half ≡ halved_arc arc)
    ⊎ ((lower : ℕ) × (lower ≤ 1) × (half ≡ free_arc arc.tail arc.head lower) × (arc ≡ free_arc arc.tail arc.head lower))

-- A count m is within the bounds and prices fit it, and the double of n, a count in coarse units, is at most one unit
-- away from it.
pub record IsRefined (price : ℕ → ℤ) (arc : Arc) (n m : ℕ) : Type 0 where
  pub within : IsWithin arc m
  pub fits : FitsOn price arc m
  pub least : 2 * n ≤ m + 1
  pub most : m ≤ 2 * n + 1

-- What is within the bounds of an arc in units of twice the size, and fits prices, does so refined as well.
abbrev pub RefinedCountsFit : Type 0
RefinedCountsFit =
    (price : ℕ → ℤ) (half arc : Arc) (n : ℕ) → IsSoundUpper arc.lower arc.upper → IsHalfOf half arc
    → IsWithin half n → FitsOn price half n → IsRefined price arc n (refined (rise_on price arc) arc n)
