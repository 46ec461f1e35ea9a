-- What a search knows of sides: marks, of which some are settled, and a frontier of those that are not.
use Rattle.std.specs.Prelude.{◌≡◌, ℕ, ◌-◌, ◌^◌, ◌<◌, ◌≤◌, Bool, true, false, not, ◌⊎◌, ◌≢◌, List, ◌∷◌, length, slice_index_or, slice_set, Option, None, Some, ℤ, pos, ◌+ℤ◌, ◌≤ℤ◌, if◌then◌else◌}
use Rattle.std.specs.List.{All, Contains, sum_by}
use Rattle.std.specs.List.Sorted.{IsPermutation}
use Rattle.std.specs.Option.{is_some}
use Rattle.flow_model.specs.declared.arc.Arc.{Arc}
use Rattle.flow_model.specs.Prices.{IsBelow}
use Rattle.reached_sides.specs.declared.mark.Mark.{Mark}
use Rattle.residual_model.specs.Residual.{cost_of_more, cost_of_less, reduced}
use Rattle.flow_model.specs.Network.{Network, arcs_of}
use Rattle.path_search.specs.Ground.{AreSmall, arc_at, count_at, price_at}

-- The distance of what has no mark: beyond all others.
abbrev pub far : ℕ
far = 2 ^ 64 - 1

-- The mark of a side.
abbrev pub mark_at : List (Option Mark) → ℕ → Option Mark
mark_at marks side = slice_index_or marks side None

-- The distance that a mark tells.
abbrev pub distance_of : Option Mark → ℕ
distance_of None = far
distance_of (Some mark) = mark.distance

-- The distance of a side.
abbrev pub distance_at : List (Option Mark) → ℕ → ℕ
distance_at marks side = distance_of (mark_at marks side)

-- A side is settled where its mark has a rank.
abbrev pub is_settled : Option Mark → Bool
is_settled None = false
is_settled (Some mark) = is_some mark.rank

-- A side is open where it is marked and not settled.
abbrev pub is_open : Option Mark → Bool
is_open None = false
is_open (Some mark) = not (is_some mark.rank)

-- 1 for a settled side, and else 0.
abbrev pub settled_one : Option Mark → ℕ
settled_one mark = if is_settled mark then 1 else 0

-- How many sides are settled.
abbrev pub settled_count : List (Option Mark) → ℕ
settled_count marks = sum_by settled_one marks

-- A mark is offered to a side: nothing changes where what is known is as near, and else the side is marked so, and
-- stands on the frontier.
abbrev pub Offers : ℕ → Mark → List (Option Mark) → List (ℕ × ℕ) → List (Option Mark) → List (ℕ × ℕ) → Type 0
Offers side mark marks frontier new_marks new_frontier =
    ((distance_at marks side ≤ mark.distance) × (new_marks ≡ marks) × (new_frontier ≡ frontier))
    ⊎ ((mark.distance < distance_at marks side ⊎ (mark_at marks side ≡ None))
    × (new_marks ≡ slice_set marks side (Some mark)) × IsPermutation ((mark.distance, side) ∷ frontier) new_frontier)

-- Marks come nearer: no distance grows, and what is settled stays as it is.
pub record ComeNearer (old new : List (Option Mark)) : Type 0 where
  pub each : length new ≡ length old
  pub nearer : (side : ℕ) → distance_at new side ≤ distance_at old side
  pub kept : (side : ℕ) → is_settled (mark_at old side) ≡ true → mark_at new side ≡ mark_at old side
  pub alike : (side : ℕ) → is_settled (mark_at new side) ≡ is_settled (mark_at old side)
  pub count : settled_count new ≡ settled_count old

-- Each open side stands on the frontier with its distance. What is settled is no further than the limit, and what
-- stands on the frontier no nearer.
pub record IsSearching (marks : List (Option Mark)) (frontier : List (ℕ × ℕ)) (limit : ℕ) : Type 0 where
  pub listed : (side : ℕ) → is_open (mark_at marks side) ≡ true → Contains frontier (distance_at marks side, side)
  pub within : All (λ entry. entry.1 < length marks) frontier
  pub ahead : All (λ entry. limit ≤ entry.0) frontier
  pub behind : (side : ℕ) → is_settled (mark_at marks side) ≡ true → distance_at marks side ≤ limit

-- What holds while a search looks from a side at this distance, so that one step more stays within 64 bits.
pub record IsLooking (prices : List ℤ) (marks : List (Option Mark)) (frontier : List (ℕ × ℕ)) (distance : ℕ)
    : Type 0 where
  pub small : AreSmall prices
  pub each : length marks ≡ length prices
  pub searching : IsSearching marks frontier distance
  pub room : distance < 2 ^ 33

-- The step along an arc leads no further than it costs, where one more may pass.
abbrev pub LedAlong : List ℤ → List (Option Mark) → ℕ → Arc → ℕ → Type 0
LedAlong prices marks distance arc n =
    IsBelow arc.upper n
    → pos (distance_at marks arc.head)
    ≤ℤ (pos distance +ℤ reduced (price_at prices) arc.tail arc.head (cost_of_more arc n))

-- And so against it, where one less may pass.
abbrev pub LedAgainst : List ℤ → List (Option Mark) → ℕ → Arc → ℕ → Type 0
LedAgainst prices marks distance arc n =
    arc.lower < n
    → pos (distance_at marks arc.tail)
    ≤ℤ (pos distance +ℤ reduced (price_at prices) arc.head arc.tail (cost_of_less arc n))

-- The steps along all arcs that leave a side lead no further than they cost.
abbrev pub LedOut : Network → List ℕ → List ℤ → List (Option Mark) → ℕ → ℕ → Type 0
LedOut net counts prices marks distance side =
    (place : ℕ) → place < length (arcs_of net) → (arc_at (arcs_of net) place).tail ≡ side
    → LedAlong prices marks distance (arc_at (arcs_of net) place) (count_at counts place)

-- And so the steps against all arcs that enter it.
abbrev pub LedBack : Network → List ℕ → List ℤ → List (Option Mark) → ℕ → ℕ → Type 0
LedBack net counts prices marks distance side =
    (place : ℕ) → place < length (arcs_of net) → (arc_at (arcs_of net) place).head ≡ side
    → LedAgainst prices marks distance (arc_at (arcs_of net) place) (count_at counts place)

-- A side is open at this distance.
pub record IsCurrent (marks : List (Option Mark)) (side distance : ℕ) : Type 0 where
  pub waits : is_open (mark_at marks side) ≡ true
  pub at : distance_at marks side ≡ distance

-- Each open side stands on the frontier with its distance, and what stands there is no nearer than a settled side.
pub record IsWaiting (marks : List (Option Mark)) (frontier : List (ℕ × ℕ)) : Type 0 where
  pub listed : (side : ℕ) → is_open (mark_at marks side) ≡ true → Contains frontier (distance_at marks side, side)
  pub within : All (λ entry. entry.1 < length marks) frontier
  pub ordered : (side : ℕ) → is_settled (mark_at marks side) ≡ true
      → All (λ entry. distance_at marks side ≤ entry.0) frontier

-- A side is the nearest open one, and was taken from the frontier.
pub record IsNext (marks : List (Option Mark)) (frontier : List (ℕ × ℕ)) (side distance : ℕ) : Type 0 where
  pub current : IsCurrent marks side distance
  pub inside : side < length marks
  pub others : (other : ℕ) → is_open (mark_at marks other) ≡ true → other ≢ side
      → Contains frontier (distance_at marks other, other)
  pub within : All (λ entry. entry.1 < length marks) frontier
  pub ahead : All (λ entry. distance ≤ entry.0) frontier
  pub behind : (other : ℕ) → is_settled (mark_at marks other) ≡ true → distance_at marks other ≤ distance

-- A mark that is settled so.
abbrev pub settled_as : ℕ → Option Mark → Option Mark
settled_as rank None = None
settled_as rank (Some mark) = Some (record mark { rank = Some rank })

-- A side is in the set that a search has reached.
abbrev pub is_reached : List (Option Mark) → ℕ → Bool
is_reached marks side = is_some (mark_at marks side)
