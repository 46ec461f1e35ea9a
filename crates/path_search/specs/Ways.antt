-- The way back from a side that a search has reached: each mark tells the last step of a way from the source.
use Rattle.std.specs.Prelude.{◌≡◌, ℕ, ◌<◌, ◌≤◌, true, false, ◌⊎◌, ◌≢◌, List, length, slice_index, slice_set, Option, None, Some, ℤ, pos, ◌+ℤ◌, unwrap_or}
use Rattle.flow_model.specs.declared.arc.Arc.{Arc}
use Rattle.flow_model.specs.Network.{Network, arcs_of}
use Rattle.flow_model.specs.Prices.{IsBelow}
use Rattle.residual_model.specs.Residual.{cost_of_more, cost_of_less, reduced}
use Rattle.reached_sides.specs.declared.mark.Mark.{Mark}
use Rattle.reached_sides.specs.declared.mark.Way.{Way}
use Rattle.reached_sides.specs.declared.mark.Way.TheVariants.{Along, Against}
use Rattle.path_search.specs.Ground.{IsSmallPrice, arc_at, count_at, price_at}
use Rattle.path_search.specs.Task.{Task, task_of}
use Rattle.path_search.specs.Search.{mark_at, distance_at, is_open, is_settled, settled_count}

-- Where a step over an arc starts.
abbrev pub start_of : Way → Arc → ℕ
start_of Along arc = arc.tail
start_of Against arc = arc.head

-- Where it leads.
abbrev pub end_of : Way → Arc → ℕ
end_of Along arc = arc.head
end_of Against arc = arc.tail

-- The count leaves such a step.
abbrev pub IsOpen : Way → Arc → ℕ → Type 0
IsOpen Along arc n = IsBelow arc.upper n
IsOpen Against arc n = arc.lower < n

-- What a unit costs on such a step.
abbrev pub cost_of_step : Way → Arc → ℕ → ℤ
cost_of_step Along arc n = cost_of_more arc n
cost_of_step Against arc n = cost_of_less arc n

-- How many sides were settled before this one, if it is settled.
abbrev pub rank_of : Option Mark → ℕ
rank_of None = 0
rank_of (Some mark) = unwrap_or mark.rank 0

-- A mark tells an open step to its side from one that was settled before, and so much further away as the step costs.
pub record IsStepTo (task : Task) (marks : List (Option Mark)) (side : ℕ) (mark : Mark) : Type 0 where
  pub inside : mark.arc < length (arcs_of task.net)
  pub leads : end_of mark.way (arc_at (arcs_of task.net) mark.arc) ≡ side
  pub leaves : IsOpen mark.way (arc_at (arcs_of task.net) mark.arc) (count_at task.counts mark.arc)
  pub from_settled : is_settled (mark_at marks (start_of mark.way (arc_at (arcs_of task.net) mark.arc))) ≡ true
  pub from_earlier : is_settled (Some mark) ≡ true
      → rank_of (mark_at marks (start_of mark.way (arc_at (arcs_of task.net) mark.arc))) < rank_of (Some mark)
  pub further : pos mark.distance
      ≡ pos (distance_at marks (start_of mark.way (arc_at (arcs_of task.net) mark.arc)))
      +ℤ reduced (price_at task.prices) (start_of mark.way (arc_at (arcs_of task.net) mark.arc)) side
      (cost_of_step mark.way (arc_at (arcs_of task.net) mark.arc) (count_at task.counts mark.arc))

-- The distance and the price of a side together, which no move of prices changes.
abbrev pub height_at : List ℤ → List (Option Mark) → ℕ → ℤ
height_at prices marks side = pos (distance_at marks side) +ℤ price_at prices side

-- Marks tell ways back to the source, which is settled before any other side and has a small height.
pub record AreWays (task : Task) (marks : List (Option Mark)) : Type 0 where
  pub small : IsSmallPrice (height_at task.prices marks task.source)
  pub begun : (side : ℕ) → is_settled (mark_at marks side) ≡ true → is_settled (mark_at marks task.source) ≡ true
  pub steps : (side : ℕ) (mark : Mark) → mark_at marks side ≡ Some mark → side ≢ task.source
      → IsStepTo task marks side mark
  pub ranked : (side : ℕ) → is_settled (mark_at marks side) ≡ true → rank_of (mark_at marks side) < settled_count marks

-- And a side is settled at this distance.
pub record AreWaysFrom (task : Task) (side distance : ℕ) (marks : List (Option Mark)) : Type 0 where
  pub ways : AreWays task marks
  pub settled : is_settled (mark_at marks side) ≡ true
  pub at : distance_at marks side ≡ distance

-- What looks from a side keeps all ways, whatever the excess and the source.
abbrev pub KeepWays : Network → List ℕ → List ℤ → ℕ → ℕ → List (Option Mark) → List (Option Mark) → Type 0
KeepWays net counts prices side distance old new =
    (excess : List ℤ) (source : ℕ) → AreWaysFrom (task_of net counts prices excess source) side distance old
    → AreWaysFrom (task_of net counts prices excess source) side distance new

-- The mark of a step to an open side at a distance.
abbrev pub mark_by : Way → ℕ → ℕ → Mark
mark_by way place distance = record { distance = distance; arc = place; way = way; rank = None }

-- The end of an open step is marked by it.
pub record IsMarkedBy (way : Way) (prices : List ℤ) (place distance : ℕ) (arc : Arc) (n : ℕ)
    (old new : List (Option Mark)) : Type 0 where
  pub to : ℕ
  pub set : new ≡ slice_set old (end_of way arc) (Some (mark_by way place to))
  pub was : is_settled (mark_at old (end_of way arc)) ≡ false
  pub leaves : IsOpen way arc n
  pub further : pos to
      ≡ pos distance +ℤ reduced (price_at prices) (start_of way arc) (end_of way arc) (cost_of_step way arc n)

-- A look over an arc marks at most the end of its step.
abbrev pub MarksAtMost : Way → List ℤ → ℕ → ℕ → Arc → ℕ → List (Option Mark) → List (Option Mark) → Type 0
MarksAtMost way prices place distance arc n old new =
    (new ≡ old) ⊎ IsMarkedBy way prices place distance arc n old new

-- Marks tell ways to a side that is open, behind all that is settled.
pub record HasWays (task : Task) (marks : List (Option Mark)) (side : ℕ) : Type 0 where
  pub ways : AreWays task marks
  pub waits : is_open (mark_at marks side) ≡ true
  pub behind : (other : ℕ) → is_settled (mark_at marks other) ≡ true → distance_at marks other ≤ distance_at marks side

-- A list has the settled sides, each at the place of its rank.
pub record AreInOrder (marks : List (Option Mark)) (order : List ℕ) : Type 0 where
  pub settled : (k : ℕ) → k < length order → (is_settled (mark_at marks (slice_index order k)) ≡ true)
      × (rank_of (mark_at marks (slice_index order k)) ≡ k)
  pub listed : (side : ℕ) → is_settled (mark_at marks side) ≡ true → (rank_of (mark_at marks side) < length order)
      × (slice_index order (rank_of (mark_at marks side)) ≡ side)

-- So many sides are settled, in this order, and none is nearer than the first.
pub record AreSettled (marks : List (Option Mark)) (order : List ℕ) : Type 0 where
  pub in_order : AreInOrder marks order
  pub count : length order ≡ settled_count marks
  pub first : (k : ℕ) → k < length order
      → distance_at marks (slice_index order 0) ≤ distance_at marks (slice_index order k)
