-- What holds before, between and behind phases.
use Rattle.std.specs.Prelude.{◌≡◌, ℕ, ◌+◌, ◌-◌, ◌*◌, ◌^◌, ◌≤◌, List, length, replicate, ℤ, pos, ◌≤ℤ◌, neg_ℤ}
use Rattle.flow_model.specs.Network.{Network, arcs_of}
use Rattle.flow_model.specs.Sound.{IsNet}
use Rattle.scaling_model.specs.Coarse.{coarse}
use Rattle.path_search.specs.Ground.{count_at, price_at, sides_of}
use Rattle.flow_balance.specs.Excess.{surplus}
use Rattle.flow_balance.specs.State.{AreLater, IsClosedFrom, IsDone, IsState, two_ways}
use Rattle.flow_phases.specs.declared.state.State.{State}

-- Zeros for each arc and side of a function's network, and room for a mark of each side.
pub record IsFresh (net : Network) (held : State) : Type 0 where
  pub of_a_function : IsNet net
  pub counts : held.counts.items ≡ replicate (length (arcs_of net)) 0
  pub prices : held.prices.items ≡ replicate (sides_of net) (pos 0)
  pub excess : held.excess.items ≡ replicate (sides_of net) (pos 0)
  pub marked : length held.work.search.marks ≡ sides_of net

-- There is room for a mark of each side.
abbrev pub IsMarked : State → Type 0
IsMarked held = length held.work.search.marks ≡ length held.prices.items

-- Prices behind so many phases, each of which moves a price no further than two ways can differ.
pub record AreNear (phases : ℕ) (prices : List ℤ) : Type 0 where
  pub least : (side : ℕ) → neg_ℤ (pos (phases * two_ways)) ≤ℤ price_at prices side
  pub most : (side : ℕ) → price_at prices side ≤ℤ pos (phases * two_ways)

-- Counts behind so many phases, each of which doubles them, some with a unit more, and begins with an excess of at most
-- the number of arcs, which is below 2^19.
abbrev pub AreLow : ℕ → List ℕ → List ℤ → Type 0
AreLow phases counts excess = (place : ℕ) → count_at counts place + surplus excess + 2 ^ 19 ≤ 2 ^ (phases + 19)

-- What a phase can begin with, behind so many others.
pub record CanBegin (net : Network) (phases : ℕ) (counts : List ℕ) (prices excess : List ℤ) : Type 0 where
  pub state : IsState net counts prices excess
  pub few : surplus excess ≤ length (arcs_of net)
  pub near : AreNear phases prices
  pub low : AreLow (phases + 1) counts excess

-- What a state has of counts, prices and excess can be balanced, from an excess of at most the number of arcs.
pub record IsReady (net : Network) (held : State) : Type 0 where
  pub state : IsState net held.counts.items held.prices.items held.excess.items
  pub few : surplus held.excess.items ≤ length (arcs_of net)
  pub marked : IsMarked held

-- No side has excess, so none lacks anything.
abbrev pub IsDoneIn : Network → State → Type 0
IsDoneIn net held = IsDone net held.counts.items held.prices.items held.excess.items

-- A phase balanced its counts.
pub record IsEvened (net : Network) (old new : State) : Type 0 where
  pub done : IsDoneIn net new
  pub later : AreLater old.counts.items old.prices.items old.excess.items new.counts.items new.prices.items
      new.excess.items

-- A side has excess, and from it no side is reached that lacks something.
abbrev pub IsClosedIn : Network → State → Type 0
IsClosedIn net held = IsClosedFrom net held.counts.items held.prices.items held.excess.items held.work.search.marks

-- Counts are least in units of 2^(digits - step), behind a first phase and one for each step.
pub record HasCome (net : Network) (digits step : ℕ) (held : State) : Type 0 where
  pub done : IsDoneIn (coarse (digits - step) net) held
  pub near : AreNear (step + 1) held.prices.items
  pub low : AreLow (step + 1) held.counts.items held.excess.items

-- And so in units of some size.
pub record IsClosed (net : Network) (held : State) : Type 0 where
  pub shift : ℕ
  pub closed : IsClosedIn (coarse shift net) held
