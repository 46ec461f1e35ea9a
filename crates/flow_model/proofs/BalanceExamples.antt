-- The definitions on worked values.
use Rattle.std.proofs.Common.{◌≡◌, ℕ, zero, suc, Bool, true, false, List, [], ◌∷◌, Some, refl, subst, arith}
use Rattle.std.specs.Prelude.{map, slice_get, slice_index}
use Rattle.block_model.specs.declared.parts.Block.{Block}
use Rattle.block_model.specs.declared.parts.Edge.{Edge}
use Rattle.block_model.specs.declared.parts.Weight.{Weight}
use Rattle.block_model.specs.declared.parts.Weight.TheVariants.{Unknown, Known}
use Rattle.block_model.specs.Function.{unbounded}
use Rattle.flow_model.specs.Network.{Network, Counts, network_of}
use Rattle.flow_model.specs.Balance.{came_to, went_from, IsWithinBound, BalancesAt, IsBalanced}
use Rattle.flow_model.specs.Passing.{came_by_edges, went_by_edges, is_entry, is_exit}

abbrev block : Bool → Block
block exit = record { lo = 1; hi = 2; exit = exit; bound = unbounded }

abbrev edge : ℕ → ℕ → Edge
edge from to = record { from = from; to = to; bound = unbounded }

-- a choice of two ways, by block 1 or 2, from block 0 to the exit, block 3
abbrev two_ways : Network
two_ways =
    network_of (block false ∷ block false ∷ block false ∷ block true ∷ []) (edge 0 1 ∷ edge 0 2 ∷ edge 1 3 ∷ edge 2 3 ∷ [])
    (Known 100 ∷ Known 60 ∷ Known 0 ∷ Known 100 ∷ []) (Unknown ∷ Unknown ∷ Unknown ∷ Unknown ∷ [])

abbrev repaired : Counts
repaired = record { blocks = 100 ∷ 100 ∷ 0 ∷ 100 ∷ []; edges = 100 ∷ 0 ∷ 100 ∷ 0 ∷ [] }

they_come : map (came_by_edges two_ways repaired) two_ways.blocks ≡ 0 ∷ 100 ∷ 0 ∷ 100 ∷ []
they_come = refl

they_go : map (went_by_edges two_ways repaired) two_ways.blocks ≡ 100 ∷ 100 ∷ 0 ∷ 0 ∷ []
they_go = refl

block_0_is_entered : map (is_entry two_ways) two_ways.blocks ≡ true ∷ false ∷ false ∷ false ∷ []
block_0_is_entered = refl

block_3_is_left : map (is_exit two_ways) two_ways.blocks ≡ false ∷ false ∷ false ∷ true ∷ []
block_3_is_left = refl

-- ---- by number: block 0 goes to block 1, from which the function returns or goes back to block 0

abbrev blocks : List Block
blocks = block false ∷ record { lo = 1; hi = 2; exit = true; bound = record { lower = 1; upper = Some 5 } } ∷ []

abbrev edges : List Edge
edges = edge 0 1 ∷ record { from = 1; to = 0; bound = record { lower = 0; upper = Some 3 } } ∷ []

abbrev sampled : List Weight
sampled = Known 4 ∷ Unknown ∷ []

-- called twice, and three times back
abbrev round : Counts
round = record { blocks = 5 ∷ 5 ∷ []; edges = 5 ∷ 3 ∷ [] }

they_come_to : map (came_to edges round.edges) (0 ∷ 1 ∷ 2 ∷ []) ≡ 3 ∷ 5 ∷ 0 ∷ []
they_come_to = refl

they_go_from : map (went_from edges round.edges) (0 ∷ 1 ∷ 2 ∷ []) ≡ 5 ∷ 3 ∷ 0 ∷ []
they_go_from = refl

blocks_balance : (number : ℕ) (block : Block) → slice_get blocks number ≡ Some block → BalancesAt edges round number block
blocks_balance zero one at = let is : block false ≡ one = cc in subst (BalancesAt edges round 0) is (record { entered = omega arith; left = refl; within = (omega arith, tt) })
blocks_balance (suc zero) one at =
    let last : Block = record { lo = 1; hi = 2; exit = true; bound = record { lower = 1; upper = Some 5 } } in
    let is : last ≡ one = cc in
    subst (BalancesAt edges round 1) is (record { entered = refl; left = omega arith; within = (omega arith, omega arith) })
blocks_balance (suc (suc k)) one at = absurd (cc)

edges_are_within : (number : ℕ) (one : Edge) → slice_get edges number ≡ Some one → IsWithinBound one.bound (slice_index round.edges number)
edges_are_within zero one at = let is : edge 0 1 ≡ one = cc in subst (λ (e : Edge). IsWithinBound e.bound 5) is (omega arith, tt)
edges_are_within (suc zero) one at =
    let back : Edge = record { from = 1; to = 0; bound = record { lower = 0; upper = Some 3 } } in
    let is : back ≡ one = cc in
    subst (λ (e : Edge). IsWithinBound e.bound 3) is (omega arith, omega arith)
edges_are_within (suc (suc k)) one at = absurd (cc)

they_balance : IsBalanced blocks edges sampled round
they_balance = record { block_counts = refl; edge_counts = refl; balance = blocks_balance; within = edges_are_within; called = λ _. omega arith }

-- back once more than block 1 ran
more_than_it_ran : IsBalanced blocks edges sampled (record { blocks = 5 ∷ 2 ∷ []; edges = 2 ∷ 3 ∷ [] }) → ⊥
more_than_it_ran is = let left = (is.balance 1 _ refl).left in omega (arith, left)

-- block 0 has no exit, and one of five went on by no edge
lost_on_the_way : IsBalanced blocks edges sampled (record { blocks = 5 ∷ 4 ∷ []; edges = 4 ∷ 3 ∷ [] }) → ⊥
lost_on_the_way is = let left = (is.balance 0 _ refl).left in omega (arith, left)

-- block 1 is not block 0: no call enters it
called_into_block_1 : IsBalanced blocks edges sampled (record { blocks = 5 ∷ 6 ∷ []; edges = 5 ∷ 3 ∷ [] }) → ⊥
called_into_block_1 is = let entered = (is.balance 1 _ refl).entered in omega (arith, entered)

-- sampled, and never called
never_called : IsBalanced blocks edges sampled (record { blocks = 3 ∷ 3 ∷ []; edges = 3 ∷ 3 ∷ [] }) → ⊥
never_called is = let called = is.called refl in omega (arith, called)

-- the edge back is taken at most three times
four_times_back : IsBalanced blocks edges sampled (record { blocks = 5 ∷ 5 ∷ []; edges = 5 ∷ 4 ∷ [] }) → ⊥
four_times_back is = let within = is.within 1 _ refl in let most = within.1 in omega (arith, most)
