-- What samples tell of edges, what a repair is, and the size of a function with an edge.
use Rattle.std.proofs.Common.{◌≡◌, ◌<◌, ◌-◌, ◌^◌, ℕ, zero, suc, Bool, true, false, List, [], ◌∷◌, Option, None, Some, refl, arith}
use Rattle.std.specs.Prelude.{codes, map, nat_lt, pos, if◌then◌else◌}
use Rattle.std.specs.Fmt.{digits}
use Rattle.std.specs.List.{All}
use Rattle.block_model.specs.declared.parts.Block.{Block}
use Rattle.block_model.specs.declared.parts.Edge.{Edge}
use Rattle.block_model.specs.declared.parts.Weight.{Weight}
use Rattle.block_model.specs.declared.parts.Weight.TheVariants.{Known, Unknown}
use Rattle.block_model.specs.Function.{Function}
use Rattle.block_model.specs.Limits.{bound_bits}
use Rattle.flow_model.specs.Network.{Network, network_of, weight_of}
use Rattle.flow_model.specs.Sound.{IsSound, IsSoundBound}
use Rattle.scaling_model.specs.Bound.{phase_bound, size_of}
use Rattle.repair_model.specs.Checking.{network_by}
use Rattle.repair_model.specs.Laws.{IsWhole}
use Rattle.repair_model.specs.Made.{IsRepairOf, Repairs}
use Rattle.repair_model.specs.Repair.{Repair, flow, cut}
use Rattle.repair_model.specs.Text.{lines_of_repair}
use Rattle.repair_model.proofs.CheckLemmas.{passing_lines_repair}
use Rattle.report_model.specs.Report.{Sampled}
use Rattle.binary_model.specs.Places.{outside}
use Rattle.output_model.specs.Built.{branches_from, ran_past}
use Rattle.output_model.specs.Program.{Program}

-- The block of addresses 10 to 19.
abbrev block : Block
block = record { lo = 10; hi = 20; exit = true; bound = record { lower = 0; upper = None } }

-- ---- what samples tell of edges

-- Function 1 up to address 50, function 2 from there on.
abbrev program : Program
program = record { place = λ a. outside; function = λ a. if nat_lt a 50 then Some 1 else Some 2; entered = λ a. None; factor = λ a. 1 }

-- To address 30 from before the block, from both its ends, from one of them again, and from behind it; and to another.
-- Ranges over one address and over some, twice; one that ends before it begins, and one that leaves its function.
abbrev sampled : Sampled
sampled = record {
  branches = (9, 30) ∷ (10, 30) ∷ (19, 30) ∷ (19, 30) ∷ (20, 30) ∷ (15, 31) ∷ [];
  ranges = (20, 20) ∷ (10, 20) ∷ (10, 20) ∷ (30, 20) ∷ (10, 60) ∷ [];
  units_read = 1;
  units_passed = 0;
}

they_lead_to : map (branches_from sampled block) (30 ∷ 31 ∷ 32 ∷ []) ≡ 3 ∷ 1 ∷ 0 ∷ []
they_lead_to = refl

-- Past an address ran what holds it and the one before it.
they_ran_past : map (ran_past program sampled) (10 ∷ 11 ∷ 20 ∷ 21 ∷ []) ≡ 0 ∷ 2 ∷ 2 ∷ 0 ∷ []
they_ran_past = refl

-- ---- a repair by counts: one block, which ran five times

abbrev one : Function
one = record { name = codes "one"; blocks = block ∷ []; edges = [] }

abbrev repaired : Repair
repaired = record {
  weights = Known 5 ∷ [];
  edge_weights = [];
  solution = flow (record { blocks = 5 ∷ []; edges = [] }) (pos 0 ∷ []) (pos 0 ∷ []);
  first = 0;
  second = 0;
}

bounded : All (λ (b : Block). IsSoundBound b.bound) one.blocks
bounded zero d within = record { small = omega arith; ordered = tt }
bounded (suc k) d within = absurd (omega (arith, within))

sound : IsSound one.blocks one.edges
sound = record {
  some = omega arith;
  few_blocks = omega arith;
  few_edges = omega arith;
  joined = λ k d within. absurd (omega (arith, within));
  bounded_blocks = bounded;
  bounded_edges = λ k d within. absurd (omega (arith, within));
}

small : All (λ (w : Weight). weight_of w < 2 ^ bound_bits) repaired.weights
small zero d within = omega arith
small (suc k) d within = absurd (omega (arith, within))

whole : IsWhole one repaired
whole = record {
  weighed = record { each = refl; small = small };
  edges_weighed = record { each = refl; small = λ k d within. absurd (omega (arith, within)) };
  shape = (refl, refl, refl, refl, refl, refl);
}

-- All lines pass, so the counts are least.
by_counts : Repairs (network_by one repaired) repaired.solution 0 0
by_counts = (passing_lines_repair one 1 repaired sound whole).0 refl

not_for_one_more : (Repairs (network_by one repaired) repaired.solution 1 0 → ⊥) × (Repairs (network_by one repaired) repaired.solution 0 1 → ⊥)
not_for_one_more = (λ is. omega (arith, is.3), λ is. omega (arith, is.4))

-- The key of an address is its number, and the first of the block has the count that is its weight.
abbrev key : ℕ → Option ℕ
key a = Some a

abbrev count : ℕ → ℕ
count k = 15 - k

its_text : IsRepairOf key count None one (codes "# function one flow\n# block 0 weight 5 count 5 in 0 out 0\n# end 0\n")
unfolding lines_of_repair digits
its_text = record {
  repair = repaired;
  weighed = (record { attained = (10, 10, omega arith, omega arith, refl, refl); bounded = λ a k at below is. let same : a ≡ k = cc in omega (arith, at, same) }, tt);
  repairs = by_counts;
  edges_weighed = λ has asked. absurd cc;
  told = (tt, ((omega arith, omega arith, omega arith, refl, refl), (omega arith, tt)));
  spelled = refl;
}

-- ---- a repair by a cut: two blocks that go on at one another, of which the first ran

abbrev edge : ℕ → ℕ → Edge
edge from to = record { from = from; to = to; bound = record { lower = 0; upper = None } }

abbrev turning : Block
turning = record block { exit = false }

abbrev looping : Network
looping = network_of (turning ∷ turning ∷ []) (edge 0 1 ∷ edge 1 0 ∷ []) (Known 5 ∷ Known 0 ∷ []) (Unknown ∷ Unknown ∷ [])

all_sides : List Bool
all_sides = true ∷ true ∷ []

-- One call has to come in, and none can go out.
by_a_cut : Repairs looping (cut false all_sides all_sides) 1 0
unfolding all_sides
by_a_cut = ((refl, refl), refl, refl, omega arith)

not_by_other_sums : (Repairs looping (cut false all_sides all_sides) 2 0 → ⊥) × (Repairs looping (cut false all_sides all_sides) 1 1 → ⊥)
unfolding all_sides
not_by_other_sums = (λ is. omega (arith, is.1), λ is. omega (arith, is.3))

-- What an arc without a bound leaves is no cut.
not_half_of_it : (second : ℕ) → Repairs looping (cut false (true ∷ false ∷ []) all_sides) 1 second → ⊥
unfolding all_sides
not_half_of_it second is = let open_end : None ≡ Some second = is.2 in absurd cc

-- ---- sizes

-- Two blocks and two edges are counted with one more.
size_with_edges : (size_of looping ≡ 5) × (phase_bound looping ≡ 160)
size_with_edges = (refl, refl)
