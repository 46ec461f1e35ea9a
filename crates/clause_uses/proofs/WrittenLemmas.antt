-- What is written of a function repairs its network.
use Rattle.std.proofs.Common.{◌≡◌, ◌<◌, ℕ, zero, suc, List, [], ◌∷◌, Option, Some, sym, subst}
use Rattle.std.specs.Prelude.{slice_get}
use Rattle.block_model.specs.Function.{Function}
use Rattle.flow_model.specs.Cut.{IsCut}
use Rattle.flow_model.specs.Network.{Network, arcs_of, network_of}
use Rattle.flow_model.specs.Repair.{AreLeast, FitCounts}
use Rattle.flow_model.specs.Sides.{AreSides}
use Rattle.flow_network.specs.Flow.{counts_of, holds, price_of}
use Rattle.flow_network.specs.declared.flow.Flow.{Flow}
use Rattle.flow_network.specs.declared.flow.Nodes.{Nodes}
use Rattle.flow_network.specs.declared.flow.Prices.{Prices}
use Rattle.flow_network.specs.declared.flow.Solved.{Solved}
use Rattle.flow_network.specs.declared.flow.Solved.TheVariants as solved
use Rattle.output_model.specs.Built.{count_of_way, edges_of}
use Rattle.output_model.specs.Program.{way_at}
use Rattle.repair_model.specs.Made.{AreRepairsOf, EdgeTold, Repairs, weighed_edges}
use Rattle.repair_model.specs.Repair.{Repair, Solution}
use Rattle.repair_text.specs.Repair.{solution_of}
use Rattle.clause_uses.specs.Written.{IsWritten, repair_at}

-- the network of a function with the weights that a repair tells
net_by : Option EdgeTold → Function → Repair → Network
net_by edges fun repair = network_of fun.blocks fun.edges repair.weights (weighed_edges edges fun.blocks fun.edges repair.weights)

same_Some : {T : Type 0} (x y : T) → Some x ≡ Some y → x ≡ y
same_Some x y e = cc

each_repairs : {K : Type 0} (key : ℕ → Option K) (count : K → ℕ) (edges : Option EdgeTold) (funs : List Function) (text : List ℕ)
    (are : AreRepairsOf key count edges funs text) (n : ℕ) (fun : Function) (repair : Repair)
    → slice_get funs n ≡ Some fun → repair_at key count edges funs text are n ≡ Some repair
    → Repairs (net_by edges fun repair) repair.solution repair.first repair.second
unfolding net_by
each_repairs key count edges [] text are n fun repair listed told = absurd cc
each_repairs key count edges (first ∷ funs) text are zero fun repair listed told =
    subst (λ (r : Repair). Repairs (net_by edges fun r) r.solution r.first r.second) (same_Some are.3.repair repair told)
    (subst (λ (f : Function). Repairs (net_by edges f are.3.repair) are.3.repair.solution are.3.repair.first are.3.repair.second) (same_Some first fun listed) are.3.repairs)
each_repairs key count edges (first ∷ funs) text are (suc n) fun repair listed told = each_repairs key count edges funs are.1 are.4 n fun repair listed told

written_repairs : (net : Network) (solution : Solution) → IsWritten net solution → (first : ℕ) × (second : ℕ) × Repairs net solution first second
unfolding net_by
written_repairs net solution w =
    let told = edges_of w.edges w.program w.sampled in
    let repairs : Repairs (net_by told w.fun w.repair) w.repair.solution w.repair.first w.repair.second =
    each_repairs (way_at w.program) (count_of_way w.program w.sampled) told w.funs w.built.repairs w.built.repaired w.place w.fun w.repair w.listed w.told in (
      w.repair.first,
      w.repair.second,
      subst (λ (n : Network). Repairs n solution w.repair.first w.repair.second) (sym w.of_function)
          (subst (λ (s : Solution). Repairs (net_by told w.fun w.repair) s w.repair.first w.repair.second) w.same repairs),
    )

-- counts and prices that are written are least and fit
pub flow_written : (net : Network) (found : Solved) (counts : Flow) (prices : Prices) → IsWritten net (solution_of found)
    → found ≡ solved.Flow counts prices
    → AreSides net prices.ins prices.outs × AreLeast net (counts_of counts) × FitCounts (price_of prices) net (counts_of counts)
flow_written net found counts prices written is =
    let all = written_repairs net (solution_of found) written in
    let told : Repairs net (solution_of (solved.Flow counts prices)) all.0 all.1 =
    subst (λ (s : Solved). Repairs net (solution_of s) all.0 all.1) is all.2 in
    (told.0, told.1, told.2)

-- a set of sides that is written is a cut
pub cut_written : (net : Network) (found : Solved) (nodes : Nodes) → IsWritten net (solution_of found) → found ≡ solved.Cut nodes
    → AreSides net nodes.ins nodes.outs × IsCut (holds nodes) (arcs_of net)
cut_written net found nodes written is =
    let all = written_repairs net (solution_of found) written in
    let told : Repairs net (solution_of (solved.Cut nodes)) all.0 all.1 =
    subst (λ (s : Solved). Repairs net (solution_of s) all.0 all.1) is all.2 in
    (told.0, (all.1, told.2, subst (λ n. all.1 < n) told.1 told.3))
