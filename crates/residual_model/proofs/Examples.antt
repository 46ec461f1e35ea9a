-- The definitions on worked values: a function of one block, which was sampled 5 times and is its exit.
use Rattle.std.proofs.Common.{◌≡◌, ℕ, [], ◌∷◌, Some, refl}
use Rattle.std.specs.Prelude.{ℤ, pos, negsuc, map, true}
use Rattle.block_model.specs.declared.parts.Block.{Block}
use Rattle.block_model.specs.declared.parts.Weight.TheVariants.{Known}
use Rattle.flow_model.specs.Network.{Network, arcs_of, network_of, block_arc}
use Rattle.residual_model.specs.Loads.{own_counts}
use Rattle.residual_model.specs.Residual.{cost_of_more, cost_of_less, excess, capped, starting, moved, reduced}

abbrev block : Block
block = record { lo = 1; hi = 2; exit = true; bound = record { lower = 0; upper = Some 7 } }

abbrev sampled : Network
sampled = network_of (block ∷ []) [] (Known 5 ∷ []) []

they_start : map starting (arcs_of sampled) ≡ 1 ∷ 5 ∷ 0 ∷ []
they_start = refl

-- more leaves the entry than calls bring, and more enters the exit than returns take
they_gather : map (excess (arcs_of sampled) (1 ∷ 5 ∷ 0 ∷ [])) (0 ∷ 1 ∷ 2 ∷ []) ≡ negsuc 0 ∷ negsuc 3 ∷ pos 5 ∷ []
they_gather = refl

a_weight_above_its_bound : capped (Some 7) 9 ≡ 7
a_weight_above_its_bound = refl

-- the block alone is dearer above its weight than below it
one_more_costs : map (cost_of_more (block_arc 0 block (Known 5))) (4 ∷ 5 ∷ []) ≡ negsuc 9 ∷ pos 40 ∷ []
one_more_costs = refl

one_less_costs : map (cost_of_less (block_arc 0 block (Known 5))) (5 ∷ 6 ∷ []) ≡ pos 10 ∷ negsuc 39 ∷ []
one_less_costs = refl

abbrev number : ℕ → ℤ
number node = pos node

-- from a node with the price 1 to one with the price 3
a_price_that_rises : reduced number 1 3 (pos 10) ≡ pos 8
a_price_that_rises = refl

-- nodes at the distances 0 to 3, moved by a limit of 2
they_move : map (moved (λ node. pos 0) (λ node. node) 2) (0 ∷ 1 ∷ 2 ∷ 3 ∷ []) ≡ negsuc 1 ∷ negsuc 0 ∷ pos 0 ∷ pos 0 ∷ []
they_move = refl

they_are_told_apart : own_counts sampled (4 ∷ 5 ∷ 6 ∷ []) ≡ record { blocks = 5 ∷ []; edges = [] }
they_are_told_apart = refl
