-- The tests of a block and of an edge, by their arcs in the network of a function.
use Rattle.std.specs.Prelude.{ℕ, ◌-◌, ◌≤◌, ◌==◌, Bool, ℤ}
use Rattle.std.specs.Bool.{OnTrue}
use Rattle.std.specs.List.{list_any}
use Rattle.flow_model.specs.declared.arc.Arc.{Arc}
use Rattle.flow_model.specs.Circulation.{root, EachArc, IsWithin, inflow, outflow}
use Rattle.flow_model.specs.Network.{Network, Counts, free_arc}
use Rattle.flow_model.specs.Prices.{FitsOn}
use Rattle.flow_model.specs.Balance.{MakesUp}

-- How often edges lead to where the block of this arc is entered.
abbrev pub came_by_edges : Network → Counts → Arc → ℕ
came_by_edges net counts arc = inflow net.edges counts.edges arc.tail

-- How often edges lead from where the block of this arc is left.
abbrev pub went_by_edges : Network → Counts → Arc → ℕ
went_by_edges net counts arc = outflow net.edges counts.edges arc.head

-- Whether the block of this arc is the one that calls enter.
abbrev pub is_entry : Network → Arc → Bool
is_entry net arc = arc.tail == net.calls.head

-- Whether the function returns from the block of this arc.
abbrev pub is_exit : Network → Arc → Bool
is_exit net arc = list_any (λ back. back.tail == arc.head) net.returns

-- The calls are enough, and the prices fit them.
pub record AreCalls (net : Network) (price : ℕ → ℤ) (n : ℕ) : Type 0 where
  pub enough : net.calls.lower ≤ n
  pub fits : FitsOn price net.calls n

-- As often as it runs, a block is entered: by edges, and the entry by calls as well.
pub record IsEntered (net : Network) (counts : Counts) (price : ℕ → ℤ) (arc : Arc) (n : ℕ) : Type 0 where
  pub made_up : MakesUp (is_entry net arc) (came_by_edges net counts arc) n
  pub called : OnTrue (is_entry net arc) (AreCalls net price (n - came_by_edges net counts arc))

-- As often as it runs, a block is left: by edges, and an exit by returns as well, which the prices fit.
pub record IsLeft (net : Network) (counts : Counts) (price : ℕ → ℤ) (arc : Arc) (n : ℕ) : Type 0 where
  pub made_up : MakesUp (is_exit net arc) (went_by_edges net counts arc) n
  pub returned : OnTrue (is_exit net arc) (FitsOn price (free_arc arc.head root 0) (n - went_by_edges net counts arc))

-- The test of a block: its count is within its bounds and balances at both sides, and the prices fit it.
-- Why: Tests of lines are said twice: here as what they ask, and in `Checking` of `repair_model` as what can be
-- computed, since an answer is a function of the files' bytes. The law `passing_lines_repair` ties the two.
pub record PassesBlock (net : Network) (counts : Counts) (price : ℕ → ℤ) (arc : Arc) (n : ℕ) : Type 0 where
  pub within : IsWithin arc n
  pub fits : FitsOn price arc n
  pub entered : IsEntered net counts price arc n
  pub left : IsLeft net counts price arc n

-- The test of an edge: its count is within its bounds, and the prices fit it.
pub record PassesEdge (price : ℕ → ℤ) (arc : Arc) (n : ℕ) : Type 0 where
  pub within : IsWithin arc n
  pub fits : FitsOn price arc n

-- Each block and each edge has a count and passes its test.
pub record AllTestsPass (net : Network) (counts : Counts) (price : ℕ → ℤ) : Type 0 where
  pub blocks : EachArc (PassesBlock net counts price) net.blocks counts.blocks
  pub edges : EachArc (PassesEdge price) net.edges counts.edges
