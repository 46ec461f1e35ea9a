-- Circulations of a network: counts on its arcs that conserve, within bounds, and what they cost.
use Rattle.std.specs.Prelude.{◌≡◌, ◌≢◌, ℕ, ◌+◌, ◌-◌, ◌*◌, ◌≤◌, ◌==◌, Bool, ⊤, List, [], ◌∷◌, Option, None, Some, if◌then◌else◌}
use Rattle.flow_model.specs.declared.arc.Arc.{Arc}

-- The root: the node that closes the ways through a network to circles.
abbrev pub root : ℕ
root = 0

-- A fact of each arc and the count on it, where there are as many counts as arcs.
abbrev pub EachArc : (Arc → ℕ → Type 0) → List Arc → List ℕ → Type 0
EachArc P [] [] = ⊤
EachArc P (arc ∷ arcs) (n ∷ counts) = P arc n × EachArc P arcs counts
EachArc P _ _ = ⊥

-- The sum of the counts on those arcs that pass.
abbrev pub sum_where : (Arc → Bool) → List Arc → List ℕ → ℕ
sum_where p (arc ∷ arcs) (n ∷ counts) = (if p arc then n else 0) + sum_where p arcs counts
sum_where p _ _ = 0

-- What enters a node.
abbrev pub inflow : List Arc → List ℕ → ℕ → ℕ
inflow arcs counts node = sum_where (λ arc. arc.head == node) arcs counts

-- What leaves a node.
abbrev pub outflow : List Arc → List ℕ → ℕ → ℕ
outflow arcs counts node = sum_where (λ arc. arc.tail == node) arcs counts

-- As much enters as leaves, at each node but the root (and so at the root, since nothing is lost on an arc).
abbrev pub Conserve : List Arc → List ℕ → Type 0
Conserve arcs counts = (node : ℕ) → node ≢ root → inflow arcs counts node ≡ outflow arcs counts node

-- At most the upper bound, if there is one.
abbrev pub IsAtMost : Option ℕ → ℕ → Type 0
IsAtMost None n = ⊤
IsAtMost (Some upper) n = n ≤ upper

-- The count is within the arc's bounds.
abbrev pub IsWithin : Arc → ℕ → Type 0
IsWithin arc n = (arc.lower ≤ n) × IsAtMost arc.upper n

-- Counts are a circulation within bounds.
pub record IsCirculation (arcs : List Arc) (counts : List ℕ) : Type 0 where
  pub within : EachArc IsWithin arcs counts
  pub conserve : Conserve arcs counts

-- What a count on an arc costs: nothing at the arc's weight, and convex in the count.
abbrev pub cost_on : Arc → ℕ → ℕ
cost_on arc n = arc.up * (n - arc.weight) + arc.down * (arc.weight - n)

-- What counts cost together.
abbrev pub total_cost : List Arc → List ℕ → ℕ
total_cost (arc ∷ arcs) (n ∷ counts) = cost_on arc n + total_cost arcs counts
total_cost _ _ = 0

-- A circulation within bounds that costs at most what each other one costs, however large its counts.
pub record IsLeast (arcs : List Arc) (counts : List ℕ) : Type 0 where
  pub circulation : IsCirculation arcs counts
  pub least : (others : List ℕ) → IsCirculation arcs others → total_cost arcs counts ≤ total_cost arcs others
