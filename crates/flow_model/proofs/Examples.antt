-- The definitions on worked values.
use Rattle.std.proofs.Common.{◌≡◌, ℕ, Bool, true, false, List, [], ◌∷◌, ◌++◌, codes, Some, None, refl, arith, get_or}
use Rattle.std.specs.Prelude.{ℤ, pos, map, not, ◌==◌, ◌||◌}
use Rattle.std.proofs.lemmas.Int.{ints}
use Rattle.block_model.specs.declared.parts.Block.{Block}
use Rattle.block_model.specs.declared.parts.Bound.{Bound}
use Rattle.block_model.specs.declared.parts.Edge.{Edge}
use Rattle.block_model.specs.declared.parts.Weight.{Weight}
use Rattle.block_model.specs.declared.parts.Weight.TheVariants.{Unknown, Known}
use Rattle.block_model.specs.Function.{Function}
use Rattle.block_model.specs.Line.{place_of, address_of, bound_by_word, bound_of, block_line_of, edge_line_of, line_by_fields, line_of}
use Rattle.block_model.specs.Text.{functions_from, functions_of}
use Rattle.text_model.specs.Fields.{fields_of}
use Rattle.text_model.specs.Lines.{lines_of}
use Rattle.text_model.specs.Numbers.{number_of, prefixed_of}
use Rattle.flow_model.specs.declared.arc.Arc.{Arc}
use Rattle.flow_model.specs.Circulation.{inflow, outflow, IsWithin, cost_on}
use Rattle.flow_model.specs.Cut.{least_in, most_out, IsCut}
use Rattle.flow_model.specs.Network.{Network, Counts, raise_of_block, lower_of_block, raise_of_edge, lower_of_edge, block_arc, arcs_of, network_of, loads}
use Rattle.flow_model.specs.Prices.{FitsOn}
use Rattle.flow_model.specs.Repair.{cost_of, FitCounts}

abbrev none : Bound
none = record { lower = 0; upper = None }

abbrev block : Bool → Bound → Block
block exit bound = record { lo = 1; hi = 2; exit = exit; bound = bound }

abbrev edge : ℕ → ℕ → Edge
edge from to = record { from = from; to = to; bound = none }

abbrev nodes : List ℕ
nodes = 0 ∷ 1 ∷ 2 ∷ 3 ∷ 4 ∷ 5 ∷ 6 ∷ 7 ∷ 8 ∷ []

-- ---- a choice of two ways: from block 0 by block 1 or 2 to the exit, block 3

abbrev two_ways : Bound → Bound → List Weight → List Weight → Network
two_ways first last weights edge_weights =
    network_of (block false first ∷ block false none ∷ block false none ∷ block true last ∷ [])
    (edge 0 1 ∷ edge 0 2 ∷ edge 1 3 ∷ edge 2 3 ∷ []) weights edge_weights

abbrev unknown : List Weight
unknown = Unknown ∷ Unknown ∷ Unknown ∷ Unknown ∷ []

-- sampled 100, 60, 0 and 100 times
abbrev sampled : Network
sampled = two_ways none none (Known 100 ∷ Known 60 ∷ Known 0 ∷ Known 100 ∷ []) unknown

abbrev repaired : Counts
repaired = record { blocks = 100 ∷ 100 ∷ 0 ∷ 100 ∷ []; edges = 100 ∷ 0 ∷ 100 ∷ 0 ∷ [] }

they_load : loads sampled repaired ≡ 100 ∷ 100 ∷ 100 ∷ 0 ∷ 100 ∷ 100 ∷ 0 ∷ 100 ∷ 0 ∷ 100 ∷ []
they_load = refl

they_conserve : map (inflow (arcs_of sampled) (loads sampled repaired)) nodes ≡ map (outflow (arcs_of sampled) (loads sampled repaired)) nodes
they_conserve = refl

they_cost : cost_of sampled repaired ≡ 400
they_cost = refl

-- the prices of the sides: the root's, and then those in and out of each block
abbrev priced : List ℤ → ℕ → ℤ
priced prices node = get_or prices node (pos 0)

they_fit : FitCounts (priced (pos 0 ∷ pos 0 ∷ pos 0 ∷ pos 0 ∷ pos 10 ∷ pos 0 ∷ pos 10 ∷ pos 10 ∷ pos 0 ∷ [])) sampled repaired
they_fit = (
  record { more = λ _. omega (arith, ints); less = λ _. omega (arith, ints) },
  (
    record { more = λ _. omega (arith, ints); less = λ _. omega (arith, ints) },
    (
      record { more = λ _. omega (arith, ints); less = λ _. omega (arith, ints) },
      (
        record { more = λ _. omega (arith, ints); less = λ h. absurd (omega (arith, h)) },
        (
          record { more = λ _. omega (arith, ints); less = λ _. omega (arith, ints) },
          (
            record { more = λ _. omega (arith, ints); less = λ _. omega (arith, ints) },
            (
              record { more = λ _. omega (arith, ints); less = λ h. absurd (omega (arith, h)) },
              (
                record { more = λ _. omega (arith, ints); less = λ _. omega (arith, ints) },
                (
                  record { more = λ _. omega (arith, ints); less = λ h. absurd (omega (arith, h)) },
                  (
                    record { more = λ _. omega (arith, ints); less = λ _. omega (arith, ints) },
                    tt,
                  ),
                ),
              ),
            ),
          ),
        ),
      ),
    ),
  ),
)

-- sampled as often as the edges were taken, but 0 times
edges_count : cost_of (two_ways none none (Known 100 ∷ Known 60 ∷ Known 0 ∷ Known 100 ∷ []) (Known 0 ∷ Known 0 ∷ Known 0 ∷ Known 0 ∷ [])) repaired ≡ 1000
edges_count = refl

-- sampled 1, 1, 1 and 2 times, and each edge once
each_once : cost_of (two_ways none none (Known 1 ∷ Known 1 ∷ Known 1 ∷ Known 2 ∷ []) (Known 1 ∷ Known 1 ∷ Known 1 ∷ Known 1 ∷ []))
    (record { blocks = 2 ∷ 1 ∷ 1 ∷ 2 ∷ []; edges = 1 ∷ 1 ∷ 1 ∷ 1 ∷ [] }) ≡ 40
each_once = refl

-- and so what the generated block text of one function says
abbrev part : ℕ → ℕ → Bool → Block
part lo hi exit = record { lo = lo; hi = hi; exit = exit; bound = none }

abbrev generated_function : Function
generated_function = record {
  name = codes "f0000";
  blocks = part 0x401000 0x401008 false ∷ part 0x401008 0x401010 false ∷ part 0x401010 0x401020 false ∷ part 0x401020 0x401040 true ∷ [];
  edges = edge 0 1 ∷ edge 0 2 ∷ edge 1 3 ∷ edge 2 3 ∷ [];
}

generated : functions_of (
    codes "func f0000\nblock 0 0x401000 0x401008\nblock 1 0x401008 0x401010\nblock 2 0x401010 0x401020\n"
    ++ codes "block 3 0x401020 0x401040 exit\nedge 0 1\nedge 0 2\nedge 1 3\nedge 2 3\nend\n")
    ≡ generated_function ∷ []
unfolding functions_from line_of line_by_fields block_line_of edge_line_of place_of address_of bound_of bound_by_word fields_of number_of prefixed_of lines_of
generated = refl

generated_costs : cost_of (network_of generated_function.blocks generated_function.edges (Known 1 ∷ Known 1 ∷ Known 1 ∷ Known 2 ∷ []) (Known 1 ∷ Known 1 ∷ Known 1 ∷ Known 1 ∷ []))
    (record { blocks = 2 ∷ 1 ∷ 1 ∷ 2 ∷ []; edges = 1 ∷ 1 ∷ 1 ∷ 1 ∷ [] }) ≡ 40
generated_costs = refl

-- the exit runs at most once
at_most_once : cost_of (two_ways none (record { lower = 0; upper = Some 1 }) (Known 1 ∷ Known 1 ∷ Known 1 ∷ Known 2 ∷ []) unknown)
    (record { blocks = 1 ∷ 1 ∷ 0 ∷ 1 ∷ []; edges = 1 ∷ 0 ∷ 1 ∷ 0 ∷ [] }) ≡ 40
at_most_once = refl

-- and block 0 at least twice: all sides but the root, where block 0 is entered and where block 3 is left
abbrev within : ℕ → Bool
within node = node == 2 || (node == 3 || (node == 4 || (node == 5 || (node == 6 || node == 7))))

twice_into_once : let arcs = arcs_of (two_ways (record { lower = 2; upper = None }) (record { lower = 0; upper = Some 1 }) (Known 1 ∷ Known 1 ∷ Known 1 ∷ Known 2 ∷ []) unknown) in
    (least_in within arcs ≡ 2) × (most_out within arcs ≡ Some 1)
twice_into_once = (refl, refl)

-- ---- a loop without an exit

abbrev loop : Network
loop = network_of (block false none ∷ block false none ∷ []) (edge 0 1 ∷ edge 1 0 ∷ []) (Known 5 ∷ Known 0 ∷ []) (Unknown ∷ Unknown ∷ [])

no_way_out : (least_in (λ node. not (node == 0)) (arcs_of loop) ≡ 1) × (most_out (λ node. not (node == 0)) (arcs_of loop) ≡ Some 0)
no_way_out = (refl, refl)

-- the root with all sides is no cut: nothing leaves, and nothing enters
all_is_no_cut : (least_in (λ node. true) (arcs_of loop) ≡ 0) × (most_out (λ node. true) (arcs_of loop) ≡ Some 0)
all_is_no_cut = (refl, refl)

-- a price of 9 in place of 10 where block 1 is left: one unit less saves 10 there
nine_does_not_fit : FitsOn (priced (pos 0 ∷ pos 0 ∷ pos 0 ∷ pos 0 ∷ pos 9 ∷ [])) (block_arc 1 (block false none) (Known 60)) 100 → ⊥
nine_does_not_fit fits = let saved = fits.less (omega arith) in omega (arith, ints, saved)

-- ---- what a unit costs

the_weights : List Weight
the_weights = Unknown ∷ Known 0 ∷ Known 5 ∷ []

above_block_0 : map (raise_of_block 0) the_weights ≡ 1 ∷ 40 ∷ 40 ∷ []
unfolding the_weights
above_block_0 = refl

below_block_0 : map (lower_of_block 0) the_weights ≡ 0 ∷ 10 ∷ 10 ∷ []
unfolding the_weights
below_block_0 = refl

above_another_block : map (raise_of_block 1) the_weights ≡ 1 ∷ 11 ∷ 10 ∷ []
unfolding the_weights
above_another_block = refl

below_another_block : map (lower_of_block 1) the_weights ≡ 0 ∷ 0 ∷ 20 ∷ []
unfolding the_weights
below_another_block = refl

above_an_edge : map raise_of_edge the_weights ≡ 0 ∷ 3 ∷ 2 ∷ []
unfolding the_weights
above_an_edge = refl

below_an_edge : map lower_of_edge the_weights ≡ 0 ∷ 0 ∷ 4 ∷ []
unfolding the_weights
below_an_edge = refl

-- 3 units above the weight at 40, 3 below at 10, none at the weight
on_block_0 : map (cost_on (block_arc 0 (block false none) (Known 5))) (8 ∷ 2 ∷ 5 ∷ []) ≡ 120 ∷ 30 ∷ 0 ∷ []
on_block_0 = refl

-- ---- bounds

abbrev from_2_to_4 : Arc
from_2_to_4 = block_arc 0 (block false (record { lower = 2; upper = Some 4 })) Unknown

at_its_bounds : IsWithin from_2_to_4 2 × IsWithin from_2_to_4 4
at_its_bounds = ((omega arith, omega arith), (omega arith, omega arith))

past_its_bounds : (IsWithin from_2_to_4 1 → ⊥) × (IsWithin from_2_to_4 5 → ⊥)
past_its_bounds = ((λ within. omega (arith, within.0)), (λ within. let most = within.1 in omega (arith, most)))

-- over an arc on which a unit costs 1 a price may not rise by 9, but at the arc's upper bound it may
abbrev rising : ℕ → ℤ
rising = priced (pos 0 ∷ pos 0 ∷ pos 9 ∷ [])

below_the_upper_bound : FitsOn rising from_2_to_4 3 → ⊥
below_the_upper_bound fits = let more = fits.more (omega arith) in omega (arith, ints, more)

at_the_upper_bound : FitsOn rising from_2_to_4 4
at_the_upper_bound = record { more = λ below. absurd (omega (arith, below)); less = λ _. omega (arith, ints) }

-- who was sampled was called: of blocks alone
calls_at_least : map (λ weights. (two_ways none none weights (Known 1 ∷ Known 1 ∷ Known 1 ∷ Known 1 ∷ [])).calls.lower)
    ((Known 0 ∷ Known 0 ∷ Known 0 ∷ Known 0 ∷ []) ∷ (Known 0 ∷ Unknown ∷ Known 1 ∷ Known 0 ∷ []) ∷ unknown ∷ []) ≡ 0 ∷ 1 ∷ 0 ∷ []
calls_at_least = refl

-- as much may flow out as has to flow in
once_into_once : let arcs = arcs_of (two_ways (record { lower = 1; upper = None }) (record { lower = 0; upper = Some 1 }) (Known 1 ∷ Known 1 ∷ Known 1 ∷ Known 2 ∷ []) unknown) in
    (least_in within arcs ≡ 1) × (most_out within arcs ≡ Some 1)
once_into_once = (refl, refl)

equal_sums_are_no_cut : (set : ℕ → Bool) (arcs : List Arc) → least_in set arcs ≡ 1 → most_out set arcs ≡ Some 1 → IsCut set arcs → ⊥
equal_sums_are_no_cut set arcs least most cut = let same : 1 ≡ cut.0 = let told = cut.1 in cc in let more = cut.2 in omega (arith, least, same, more)
