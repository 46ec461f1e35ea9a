-- What a search has found, while it goes on and when it ends.
use Rattle.std.specs.Prelude.{◌≡◌, ℕ, ◌<◌, true, List, length, Option, ℤ, pos, ◌+ℤ◌, ◌≤ℤ◌, ◌<ℤ◌, IfSome, MatchOption}
use Rattle.flow_model.specs.Network.{arcs_of}
use Rattle.reached_sides.specs.declared.mark.Mark.{Mark}
use Rattle.residual_model.specs.Laws.{HoldBelow, IsClosed}
use Rattle.residual_model.specs.Residual.{EachStep, reduced}
use Rattle.path_search.specs.Ground.{price_at}
use Rattle.path_search.specs.Task.{Task}
use Rattle.path_search.specs.Search.{far, mark_at, distance_at, is_settled, is_reached, IsNext, IsWaiting}
use Rattle.path_search.specs.Ways.{AreSettled, AreWays}
use Rattle.path_search.specs.declared.walk.Search.{Search}

-- What a search has done at any time: it has reached its source, each step from a settled side leads no further than it
-- costs, no settled side lacks anything, and its marks tell ways back.
pub record HasSettled (task : Task) (marks : List (Option Mark)) : Type 0 where
  pub each : length marks ≡ length task.prices
  pub begins : distance_at marks task.source < far
  pub led : EachStep (λ from to cost. is_settled (mark_at marks from) ≡ true
      → pos (distance_at marks to) ≤ℤ (pos (distance_at marks from) +ℤ reduced (price_at task.prices) from to cost))
      (arcs_of task.net) task.counts
  pub none_lacks : (side : ℕ) → is_settled (mark_at marks side) ≡ true → pos 0 ≤ℤ price_at task.excess side
  pub ways : AreWays task marks

-- It is under way: it may come to the next side.
pub record IsUnderWay (task : Task) (held : Search) : Type 0 where
  pub settled : HasSettled task held.marks
  pub listed : AreSettled held.marks held.order.items
  pub waiting : IsWaiting held.marks held.frontier

-- It has come to a side at a distance, and has not settled it.
pub record HasComeTo (task : Task) (held : Search) (side distance : ℕ) : Type 0 where
  pub settled : HasSettled task held.marks
  pub listed : AreSettled held.marks held.order.items
  pub next : IsNext held.marks held.frontier side distance

-- It has reached a side that lacks something, and settled each nearer one: distances hold below it.
pub record HasReached (task : Task) (marks : List (Option Mark)) (side : ℕ) : Type 0 where
  pub settled : HasSettled task marks
  pub inside : side < length task.prices
  pub lacks : price_at task.excess side <ℤ pos 0
  pub nearest : (other : ℕ) → distance_at marks other < distance_at marks side
      → is_settled (mark_at marks other) ≡ true
  pub hold : HoldBelow (distance_at marks side) (distance_at marks) (price_at task.prices)
      (arcs_of task.net) task.counts

-- It has reached a set of sides that no step leaves, and none of them lacks anything.
pub record HasClosed (task : Task) (marks : List (Option Mark)) : Type 0 where
  pub settled : HasSettled task marks
  pub begins : is_reached marks task.source ≡ true
  pub closed : IsClosed (is_reached marks) (arcs_of task.net) task.counts
  pub none_lacks : (side : ℕ) → is_reached marks side ≡ true → pos 0 ≤ℤ price_at task.excess side

-- How it ends: it has reached a side that lacks something, which is the next one; or a set that no step leaves. In both
-- cases the settled sides are listed in their order.
pub record HasEnded (task : Task) (held : Search) (found : Option ℕ) : Type 0 where
  pub reached : MatchOption found (HasClosed task held.marks) (λ side. HasReached task held.marks side)
  pub next : IfSome found (λ side. IsNext held.marks held.frontier side (distance_at held.marks side))
  pub listed : AreSettled held.marks held.order.items
