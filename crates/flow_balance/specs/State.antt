-- What holds of counts, prices and excess between two augmentations.
use Rattle.std.specs.Prelude.{◌≡◌, ℕ, ◌+◌, ◌-◌, ◌*◌, ◌^◌, ◌<◌, ◌≤◌, Bool, true, ◌⊎◌, List, length, Option, ℤ, pos, negsuc, ◌+ℤ◌, ◌≤ℤ◌, ◌<ℤ◌}
use Rattle.std.specs.List.{All}
use Rattle.flow_model.specs.declared.arc.Arc.{Arc}
use Rattle.flow_model.specs.Circulation.{EachArc, IsWithin}
use Rattle.flow_model.specs.Network.{Network, arcs_of}
use Rattle.flow_model.specs.Sound.{IsNet}
use Rattle.residual_model.specs.Residual.{starting}
use Rattle.reached_sides.specs.declared.mark.Mark.{Mark}
use Rattle.path_search.specs.Ground.{IsGround, arc_at, count_at, price_at, sides_of}
use Rattle.path_search.specs.Search.{distance_at}
use Rattle.path_search.specs.Task.{Task, task_of}
use Rattle.path_search.specs.Found.{HasClosed, HasComeTo}
use Rattle.path_search.specs.declared.walk.Search.{Search}
use Rattle.path_search.specs.declared.step.Step.{Step}
use Rattle.path_search.specs.Path.{StepTakes, pushed}
use Rattle.flow_balance.specs.Excess.{AreExcess, surplus_of, lack_of, surplus, lack, transferred}

-- The counts to start from, and their excess.
pub record IsStart (net : Network) (counts : List ℕ) (excess : List ℤ) : Type 0 where
  pub of_a_function : IsNet net
  pub counted : length counts ≡ length (arcs_of net)
  pub told : length excess ≡ sides_of net
  pub starts : (place : ℕ) → place < length (arcs_of net)
      → count_at counts place ≡ starting (arc_at (arcs_of net) place)
  pub are_excess : AreExcess (arcs_of net) counts excess
  pub even : surplus excess ≡ lack excess
  pub few : (most : ℕ)
      → ((place : ℕ) → place < length (arcs_of net) → starting (arc_at (arcs_of net) place) ≤ most)
      → surplus excess ≤ length (arcs_of net) * most

-- A price within 2^30 on either side of 0.
pub record IsLowPrice (price : ℤ) : Type 0 where
  pub least : negsuc (2 ^ 30 - 1) ≤ℤ price
  pub most : price ≤ℤ pos (2 ^ 30)

-- Counts within bounds that prices fit, with their excess: together sides lack what others have too much, no count can
-- leave its type, and a side that lacks something has a low price.
pub record IsState (net : Network) (counts : List ℕ) (prices excess : List ℤ) : Type 0 where
  pub ground : IsGround net counts prices
  pub within : EachArc IsWithin (arcs_of net) counts
  pub told : length excess ≡ length prices
  pub are_excess : AreExcess (arcs_of net) counts excess
  pub even : surplus excess ≡ lack excess
  pub bounded : (place : ℕ) → count_at counts place + surplus excess < 2 ^ 64
  pub low : (side : ℕ) → price_at excess side <ℤ pos 0 → IsLowPrice (price_at prices side)

-- How far apart prices can be that two ways from one side give: at most 40 a step, on each of them.
abbrev pub two_ways : ℕ
two_ways = 80 * 2 ^ 18

-- A price is near that of a side which lacks something.
pub record IsNearLack (prices excess : List ℤ) (price : ℤ) : Type 0 where
  pub side : ℕ
  pub lacks : price_at excess side <ℤ pos 0
  pub most : price ≤ℤ (price_at prices side +ℤ pos two_ways)
  pub least : price_at prices side ≤ℤ (price +ℤ pos two_ways)

-- What balancing keeps: there is no more excess, and none where there was none; what lacks something did so before, at
-- the same price; a price is as it was, or near one of a side that lacked something; and a count and all excess are
-- together within what they were within before.
pub record AreLater (old_counts : List ℕ) (old_prices old_excess : List ℤ) (counts : List ℕ) (prices excess : List ℤ)
    : Type 0 where
  pub each : length excess ≡ length old_excess
  pub no_more : surplus excess ≤ surplus old_excess
  pub kept : (side : ℕ) → price_at old_excess side ≤ℤ pos 0 → price_at excess side ≤ℤ pos 0
  pub lacked : (side : ℕ) → price_at excess side <ℤ pos 0 → price_at old_excess side <ℤ pos 0
  pub steady : (side : ℕ) → price_at excess side <ℤ pos 0 → price_at prices side ≡ price_at old_prices side
  pub near : (side : ℕ) → (price_at prices side ≡ price_at old_prices side)
      ⊎ IsNearLack old_prices old_excess (price_at prices side)
  pub under : (most : ℕ) → ((place : ℕ) → count_at old_counts place + surplus old_excess ≤ most)
      → (place : ℕ) → count_at counts place + surplus excess ≤ most

-- Excess went to sides that lacked counts.
pub record IsGiven (net : Network) (old_counts : List ℕ) (old_prices old_excess : List ℤ) (counts : List ℕ)
    (prices excess : List ℤ) : Type 0 where
  pub state : IsState net counts prices excess
  pub later : AreLater old_counts old_prices old_excess counts prices excess

-- An augmentation leaves less excess.
pub record IsAugmented (net : Network) (old_counts : List ℕ) (old_prices old_excess : List ℤ) (counts : List ℕ)
    (prices excess : List ℤ) : Type 0 where
  pub given : IsGiven net old_counts old_prices old_excess counts prices excess
  pub less : surplus excess < surplus old_excess

-- Of so many augmentations that may be made some were, and each took at least one unit of excess.
pub record AreSpent (old_left : ℕ) (old_excess : List ℤ) (left : ℕ) (excess : List ℤ) : Type 0 where
  pub fewer : left ≤ old_left
  pub taken : surplus excess + old_left ≤ surplus old_excess + left

-- No side has excess, so none lacks anything.
pub record IsDone (net : Network) (counts : List ℕ) (prices excess : List ℤ) : Type 0 where
  pub state : IsState net counts prices excess
  pub balanced : (side : ℕ) → price_at excess side ≡ pos 0

-- A side has excess, and from it no side is reached that lacks something.
pub record IsClosedFrom (net : Network) (counts : List ℕ) (prices excess : List ℤ) (marks : List (Option Mark))
    : Type 0 where
  pub source : ℕ
  pub state : IsState net counts prices excess
  pub gathers : pos 0 <ℤ price_at excess source
  pub closed : HasClosed (task_of net counts prices excess source) marks

-- An amount went along the steps, from the excess of a source to a side that lacked it. It is told whether the steps
-- take more.
pub record HasMoved (arcs : List Arc) (counts : List ℕ) (excess : List ℤ) (source side : ℕ) (steps : List Step)
    (new_counts : List ℕ) (new_excess : List ℤ) (more : Bool) : Type 0 where
  pub amount : ℕ
  pub some : 0 < amount
  pub has : amount ≤ surplus_of (price_at excess source)
  pub lacks : amount ≤ lack_of (price_at excess side)
  pub takes : All (StepTakes arcs counts amount) steps
  pub take_more : more ≡ true → All (StepTakes arcs counts (amount + 1)) steps
  pub counts_are : new_counts ≡ pushed amount steps counts
  pub excess_is : new_excess ≡ transferred excess source side amount

-- A search has come to a side, and can go on from there: the side lacks nothing, and the source has excess.
pub record CanGoOn (task : Task) (held : Search) (side : ℕ) : Type 0 where
  pub come : HasComeTo task held side (distance_at held.marks side)
  pub enough : pos 0 ≤ℤ price_at task.excess side
  pub gathers : pos 0 <ℤ price_at task.excess task.source
