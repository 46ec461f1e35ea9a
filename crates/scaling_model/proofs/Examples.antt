-- The definitions on worked values: a function of one block, which was sampled 5 times and is its exit.
use Rattle.std.proofs.Common.{◌≡◌, ◌≤◌, ◌+◌, ℕ, zero, suc, [], ◌∷◌, Some, None, refl, arith}
use Rattle.std.specs.Prelude.{ℤ, pos, negsuc, map, true}
use Rattle.block_model.specs.declared.parts.Block.{Block}
use Rattle.block_model.specs.declared.parts.Weight.TheVariants.{Known}
use Rattle.flow_model.specs.declared.arc.Arc.{Arc}
use Rattle.flow_model.specs.Network.{Network, arcs_of, network_of, block_arc, free_arc}
use Rattle.residual_model.specs.Residual.{starting}
use Rattle.scaling_model.specs.Bound.{most_digits, phase_bound, size_of, AreFew, StartWithin}
use Rattle.scaling_model.specs.Coarse.{begun_units, coarse, coarse_arc, whole_units}
use Rattle.scaling_model.specs.Laws.{half_up, halved, halved_arc}
use Rattle.scaling_model.specs.Refining.{refined, rise_on, set_right}

abbrev block : Block
block = record { lo = 1; hi = 2; exit = true; bound = record { lower = 3; upper = Some 7 } }

abbrev sampled : Network
sampled = network_of (block ∷ []) [] (Known 5 ∷ []) []

-- in units of 1, 2, 4 and 8
units_of_seven : map (λ shift. whole_units shift 7) (0 ∷ 1 ∷ 2 ∷ 3 ∷ []) ≡ 7 ∷ 3 ∷ 1 ∷ 0 ∷ []
units_of_seven = refl

begun_units_of_seven : map (λ shift. begun_units shift 7) (0 ∷ 1 ∷ 2 ∷ 3 ∷ []) ≡ 7 ∷ 4 ∷ 2 ∷ 1 ∷ []
begun_units_of_seven = refl

lower_bounds : map (λ shift. map (λ (arc : Arc). arc.lower) (arcs_of (coarse shift sampled))) (0 ∷ 1 ∷ 2 ∷ [])
    ≡ (1 ∷ 3 ∷ 0 ∷ []) ∷ (1 ∷ 1 ∷ 0 ∷ []) ∷ (1 ∷ 0 ∷ 0 ∷ []) ∷ []
lower_bounds = refl

upper_bounds : map (λ shift. map (λ (arc : Arc). arc.upper) (arcs_of (coarse shift sampled))) (0 ∷ 1 ∷ 2 ∷ [])
    ≡ (None ∷ Some 7 ∷ None ∷ []) ∷ (None ∷ Some 4 ∷ None ∷ []) ∷ (None ∷ Some 2 ∷ None ∷ []) ∷ []
upper_bounds = refl

they_start : map (λ shift. map starting (arcs_of (coarse shift sampled))) (0 ∷ 1 ∷ 2 ∷ []) ≡ (1 ∷ 5 ∷ 0 ∷ []) ∷ (1 ∷ 3 ∷ 0 ∷ []) ∷ (1 ∷ 2 ∷ 0 ∷ []) ∷ []
they_start = refl

a_half_begun : map half_up (0 ∷ 1 ∷ 2 ∷ 3 ∷ []) ≡ 0 ∷ 1 ∷ 1 ∷ 2 ∷ []
a_half_begun = refl

two_shifts_halve_twice : coarse 2 sampled ≡ halved (halved sampled)
two_shifts_halve_twice = refl

-- from 3 to 7, and 5 costs nothing; one more costs 40, one less 10
abbrev arc : Arc
arc = block_arc 0 block (Known 5)

-- below the lower bound, within the bounds, and above the upper bound
a_price_that_rises_far : map (set_right (pos 40) arc) (2 ∷ 3 ∷ 6 ∷ 7 ∷ 8 ∷ []) ≡ 3 ∷ 3 ∷ 6 ∷ 7 ∷ 7 ∷ []
a_price_that_rises_far = refl

-- above the weight a unit is taken where it costs more than the price rises
a_price_that_rises_less : map (set_right (pos 39) arc) (2 ∷ 3 ∷ 5 ∷ 6 ∷ 7 ∷ 8 ∷ []) ≡ 3 ∷ 3 ∷ 5 ∷ 5 ∷ 6 ∷ 7 ∷ []
a_price_that_rises_less = refl

-- 3 units of 2 are 6 units of 1, or 5 where the last one costs too much
three_of_two : map (λ rise. refined rise arc 3) (pos 40 ∷ pos 10 ∷ []) ≡ 6 ∷ 5 ∷ []
three_of_two = refl

-- one call is one call
one_call : map (λ rise. refined rise (free_arc 0 1 1) 1) (pos 0 ∷ negsuc 0 ∷ []) ≡ 2 ∷ 1 ∷ []
one_call = refl

abbrev number : ℕ → ℤ
number node = pos node

a_rise : rise_on number arc ≡ pos 1
a_rise = refl

-- ---- the bound on augmentations

-- a block and no edge are counted with one more, and each phase has at most 32 times so many
size_of_one_block : (size_of sampled ≡ 2) × (phase_bound sampled ≡ 64) × (most_digits ≡ 36)
size_of_one_block = (refl, refl, refl)

-- 5 has three binary digits, and not two
three_digits : StartWithin 3 sampled
three_digits zero d within = omega arith
three_digits (suc zero) d within = omega arith
three_digits (suc (suc zero)) d within = omega arith
three_digits (suc (suc (suc k))) d within = absurd (omega (arith, within))

-- 4 has three as well
not_two_digits : StartWithin 2 (network_of (block ∷ []) [] (Known 4 ∷ []) []) → ⊥
not_two_digits small = let four = small 1 (free_arc 0 1 0) (omega arith) in omega (arith, four)

-- a weight of 1 is raised to 3, and one of 100 lowered to 7
one_is_raised : StartWithin 1 (network_of (block ∷ []) [] (Known 1 ∷ []) []) → ⊥
one_is_raised small = let three = small 1 (free_arc 0 1 0) (omega arith) in omega (arith, three)

a_hundred_is_lowered : StartWithin 3 (network_of (block ∷ []) [] (Known 100 ∷ []) [])
a_hundred_is_lowered zero d within = omega arith
a_hundred_is_lowered (suc zero) d within = omega arith
a_hundred_is_lowered (suc (suc zero)) d within = omega arith
a_hundred_is_lowered (suc (suc (suc k))) d within = absurd (omega (arith, within))

-- so there are at most four phases, from the first augmentation that is counted to the last; and as many may be
at_most_four_phases : (before after : ℕ) → AreFew sampled before after → after ≤ before + 256
at_most_four_phases before after few = let most = (few 3 three_digits).few in omega (arith, most)

four_phases_are_few : AreFew sampled 7 263
four_phases_are_few zero small = let five = small 1 (free_arc 0 1 0) (omega arith) in absurd (omega (arith, five))
four_phases_are_few (suc zero) small = let five = small 1 (free_arc 0 1 0) (omega arith) in absurd (omega (arith, five))
four_phases_are_few (suc (suc zero)) small = let five = small 1 (free_arc 0 1 0) (omega arith) in absurd (omega (arith, five))
four_phases_are_few (suc (suc (suc k))) small = record { later = omega arith; few = omega arith }

none_is_taken_back : AreFew sampled 7 6 → ⊥
none_is_taken_back few = let later = (few 3 three_digits).later in omega (arith, later)
