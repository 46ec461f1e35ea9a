-- What `build` writes of one of the functions of a block text.
use Rattle.std.specs.Prelude.{◌≡◌, zero, suc, ℕ, Bool, List, [], ◌∷◌, Option, None, Some, slice_get}
use Rattle.block_model.specs.Function.{Function}
use Rattle.flow_model.specs.Network.{Network, network_of}
use Rattle.output_model.specs.Built.{IsBuilt, count_of_way, edges_of}
use Rattle.output_model.specs.Program.{Program, way_at}
use Rattle.repair_model.specs.Made.{AreRepairsOf, EdgeTold, weighed_edges}
use Rattle.repair_model.specs.Repair.{Repair, Solution}
use Rattle.report_model.specs.Report.{Sampled}

-- The repair of the function at a place, of those that a text tells of functions.
abbrev pub repair_at : {K : Type 0} (key : ℕ → Option K) (count : K → ℕ) (edges : Option EdgeTold)
    (funs : List Function) (text : List ℕ) → AreRepairsOf key count edges funs text → ℕ → Option Repair
repair_at key count edges [] text are n = None
repair_at key count edges (fun ∷ funs) text are zero = Some are.3.repair
repair_at key count edges (fun ∷ funs) text are (suc n) = repair_at key count edges funs are.1 are.4 n

-- `build` may write a text that tells this solution of some function, and the function has this network with the
-- weights that the text tells of it.
pub record IsWritten (net : Network) (solution : Solution) : Type 0 where
  pub edges : Bool
  pub program : Program
  pub sampled : Sampled
  pub funs : List Function
  pub text : List ℕ
  pub built : IsBuilt edges program sampled funs text
  pub place : ℕ
  pub fun : Function
  pub listed : slice_get funs place ≡ Some fun
  pub repair : Repair
  pub told : repair_at (way_at program) (count_of_way program sampled) (edges_of edges program sampled) funs
      built.repairs built.repaired place ≡ Some repair
  pub same : repair.solution ≡ solution
  pub of_function : net ≡ network_of fun.blocks fun.edges repair.weights
      (weighed_edges (edges_of edges program sampled) fun.blocks fun.edges repair.weights)
