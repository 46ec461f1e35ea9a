-- Counts that are set right, arc by arc, and the excess that this leaves.
use Rattle.std.specs.Prelude.{◌≡◌, ℕ, ◌+◌, ◌<◌, ◌≤◌, ◌==◌, List, length, ℤ, pos, ◌+ℤ◌, ◌-ℤ◌, if◌then◌else◌}
use Rattle.flow_model.specs.Network.{Network, arcs_of}
use Rattle.scaling_model.specs.Refining.{set_right, rise_on}
use Rattle.path_search.specs.Ground.{arc_at, count_at, price_at, sides_of}
use Rattle.flow_balance.specs.Excess.{AreExcess, surplus, lack}

-- The counts of so many arcs are set right, with their excess: at most one unit for each of them.
pub record AreSetRight (net : Network) (old_counts : List ℕ) (prices : List ℤ) (counts : List ℕ) (excess : List ℤ)
    (done : ℕ) : Type 0 where
  pub counted : length counts ≡ length (arcs_of net)
  pub told : length excess ≡ sides_of net
  pub right : (place : ℕ) → place < done → place < length (arcs_of net)
      → count_at counts place
      ≡ set_right (rise_on (price_at prices) (arc_at (arcs_of net) place)) (arc_at (arcs_of net) place)
      (count_at old_counts place)
  pub rest : (place : ℕ) → done ≤ place → count_at counts place ≡ count_at old_counts place
  pub are_excess : AreExcess (arcs_of net) counts excess
  pub even : surplus excess ≡ lack excess
  pub few : surplus excess ≤ done

-- What an amount on an arc brings to a node: so much at its head, and so much less at its tail.
abbrev pub brought : ℕ → ℕ → ℕ → ℕ → ℤ
brought tail head amount node =
    pos (if head == node then amount else 0) -ℤ pos (if tail == node then amount else 0)

-- A count on an arc changed by at most one, and the excess with it.
pub record IsShifted (excess : List ℤ) (tail head old_count count : ℕ) (new_excess : List ℤ) : Type 0 where
  pub each : length new_excess ≡ length excess
  pub at_each : (node : ℕ) → (price_at new_excess node +ℤ brought tail head old_count node)
      ≡ (price_at excess node +ℤ brought tail head count node)
  pub even : surplus excess ≡ lack excess → surplus new_excess ≡ lack new_excess
  pub few : surplus new_excess ≤ surplus excess + 1
