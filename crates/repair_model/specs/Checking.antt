-- Whether repairs keep what they promise: each line of a repair behind its first has a test. Those of blocks and edges
-- are the facts of `Passing` in the flow's model, as Booleans; that both agree is the law `passing_lines_repair`.
use Rattle.std.specs.Prelude.{ℕ, ◌+◌, ◌-◌, ◌==◌, nat_le, nat_lt, Bool, true, false, not, ◌&&◌, ◌||◌, List, [], ◌∷◌, ◌++◌, map, Option, None, Some, ℤ, pos, ◌-ℤ◌, int_le, if◌then◌else◌}
use Rattle.std.specs.Option.{option_or}
use Rattle.block_model.specs.declared.parts.Edge.{Edge}
use Rattle.block_model.specs.declared.parts.Weight.{Weight}
use Rattle.block_model.specs.declared.parts.Weight.TheVariants.{Unknown}
use Rattle.block_model.specs.Function.{Function}
use Rattle.block_model.specs.Judging.{exceeds}
use Rattle.flow_model.specs.declared.arc.Arc.{Arc}
use Rattle.flow_model.specs.Circulation.{root, cost_on}
use Rattle.flow_model.specs.Cut.{least_in, most_out}
use Rattle.flow_model.specs.Network.{Network, Counts, arcs_of, free_arc, network_of}
use Rattle.flow_model.specs.Passing.{came_by_edges, went_by_edges, is_entry, is_exit}
use Rattle.flow_model.specs.Repair.{cost_of}
use Rattle.flow_model.specs.Sides.{at_side}
use Rattle.repair_model.specs.Repair.{Repair, Solution, flow, cut}

-- A count is within the bounds of an arc.
abbrev pub is_within : Arc → ℕ → Bool
is_within arc n = nat_le arc.lower n && not (exceeds n arc.upper)

-- The count is at the upper bound, if there is one.
abbrev pub is_full : Option ℕ → ℕ → Bool
is_full None n = false
is_full (Some upper) n = nat_le upper n

-- Along an arc the price rises by at most what one unit more costs, unless the arc is full.
abbrev pub fits_more : (ℕ → ℤ) → Arc → ℕ → Bool
fits_more price arc n =
    is_full arc.upper n
    || int_le (price arc.head -ℤ price arc.tail) (pos (cost_on arc (n + 1)) -ℤ pos (cost_on arc n))

-- It falls by at most what one unit less costs, unless the count is at the lower bound.
abbrev pub fits_less : (ℕ → ℤ) → Arc → ℕ → Bool
fits_less price arc n =
    nat_le n arc.lower
    || int_le (price arc.tail -ℤ price arc.head) (pos (cost_on arc (n - 1)) -ℤ pos (cost_on arc n))

-- The prices fit the count.
abbrev pub fits : (ℕ → ℤ) → Arc → ℕ → Bool
fits price arc n = fits_more price arc n && fits_less price arc n

-- A part is all of the count, or at most all of it where there may be a rest.
abbrev pub makes_up : Bool → ℕ → ℕ → Bool
makes_up has_rest part n = if has_rest then nat_le part n else part == n

-- The calls are enough, and the prices fit them.
abbrev pub are_calls : Network → (ℕ → ℤ) → ℕ → Bool
are_calls net price n = nat_le net.calls.lower n && fits price net.calls n

-- As often as it runs, a block is entered: by edges, and the entry by calls as well.
abbrev pub is_entered : Network → Counts → (ℕ → ℤ) → Arc → ℕ → Bool
is_entered net counts price arc n =
    makes_up (is_entry net arc) (came_by_edges net counts arc) n
    && (not (is_entry net arc) || are_calls net price (n - came_by_edges net counts arc))

-- As often as it runs, a block is left: by edges, and an exit by returns as well, which the prices fit.
abbrev pub is_left : Network → Counts → (ℕ → ℤ) → Arc → ℕ → Bool
is_left net counts price arc n =
    makes_up (is_exit net arc) (went_by_edges net counts arc) n
    && (not (is_exit net arc) || fits price (free_arc arc.head root 0) (n - went_by_edges net counts arc))

-- The test of a block's line: its count is within its bounds and balances at both sides, and the prices fit it.
abbrev pub passes_block : Network → Counts → (ℕ → ℤ) → Arc → ℕ → Bool
passes_block net counts price arc n =
    (is_within arc n && fits price arc n) && (is_entered net counts price arc n && is_left net counts price arc n)

-- The test of an edge's line: its count is within its bounds, and the prices fit it.
abbrev pub passes_edge : (ℕ → ℤ) → Arc → ℕ → Bool
passes_edge price arc n = is_within arc n && fits price arc n

-- A test of each of these arcs, by its count.
abbrev pub each_test : (Arc → ℕ → Bool) → List Arc → List ℕ → List Bool
each_test passes (arc ∷ arcs) (n ∷ counts) = passes arc n ∷ each_test passes arcs counts
each_test passes _ _ = []

-- The test of a cut's last line: the sums are those of the set, all arcs that leave it are bounded, and more has to
-- flow in than can flow out.
-- Why: A cut that was read needs no weights of edges: its sums go by bounds, and by whether a block was sampled.
abbrev pub is_cut_of : Option ℕ → ℕ → ℕ → ℕ → Bool
is_cut_of None least first second = false
is_cut_of (Some most) least first second = first == least && (second == most && nat_lt second first)

-- The tests of the lines behind the first, in their order. The line of a block in a cut says nothing that could fail.
-- Why: Prices count by their differences, so the outside has the price 0 in a text. Those differences are whole
-- numbers, past 64 bits too.
abbrev pub tests_of : Network → Solution → ℕ → ℕ → List Bool
tests_of net (flow counts ins outs) first second =
    let price = at_side (pos 0) ins outs in
    each_test (passes_block net counts price) net.blocks counts.blocks
    ++ (each_test (passes_edge price) net.edges counts.edges ++ (first == cost_of net counts) ∷ [])
tests_of net (cut at_root ins outs) first second =
    let set = at_side at_root ins outs in
    map (λ arc. true) net.blocks
    ++ is_cut_of (most_out set (arcs_of net)) (least_in set (arcs_of net)) first second ∷ []

-- The weights of a function's edges in a repair; those of a cut do not matter.
abbrev pub weights_of_edges : List Edge → List Weight → Solution → List Weight
weights_of_edges edges weights (flow counts ins outs) = weights
weights_of_edges edges weights (cut at_root ins outs) = map (λ edge. Unknown) edges

-- The network that a repair is of.
abbrev pub network_by : Function → Repair → Network
network_by fun repair =
    network_of fun.blocks fun.edges repair.weights (weights_of_edges fun.edges repair.edge_weights repair.solution)

-- The number of the first line that fails, the first of them having this one.
abbrev pub first_failing : ℕ → List Bool → Option ℕ
first_failing number [] = None
first_failing number (passes ∷ tests) = if passes then first_failing (number + 1) tests else Some number

-- The line of a repair that fails its test, its first line having this number.
abbrev pub failed_in : Function → ℕ → Repair → Option ℕ
failed_in fun line repair =
    first_failing (line + 1) (tests_of (network_by fun repair) repair.solution repair.first repair.second)

-- The first line of these repairs of functions that fails its test.
-- Why: Repairs are tested behind both texts: a bad line further down is told before a line that fails.
abbrev pub failed_line : List Function → List (ℕ × Repair) → Option ℕ
failed_line (fun ∷ funs) ((line, repair) ∷ repairs) = option_or (failed_in fun line repair) (failed_line funs repairs)
failed_line _ _ = None
