-- Prices of nodes (potentials) that fit the counts on the arcs.
use Rattle.std.specs.Prelude.{ℕ, ◌+◌, ◌-◌, ◌<◌, ⊤, Option, None, Some, List, ℤ, pos, ◌-ℤ◌, ◌≤ℤ◌}
use Rattle.flow_model.specs.declared.arc.Arc.{Arc}
use Rattle.flow_model.specs.Circulation.{EachArc, cost_on}

-- Below the upper bound, or without one.
abbrev pub IsBelow : Option ℕ → ℕ → Type 0
IsBelow None n = ⊤
IsBelow (Some upper) n = n < upper

-- The way along an arc raises the price by at most what one unit more costs there, where one more may pass; and
-- lowers it by at most what one unit less costs, where one less may pass. So no reduced cost is negative.
pub record FitsOn (price : ℕ → ℤ) (arc : Arc) (n : ℕ) : Type 0 where
  pub more : IsBelow arc.upper n
      → (price arc.head -ℤ price arc.tail) ≤ℤ (pos (cost_on arc (n + 1)) -ℤ pos (cost_on arc n))
  pub less : arc.lower < n
      → (price arc.tail -ℤ price arc.head) ≤ℤ (pos (cost_on arc (n - 1)) -ℤ pos (cost_on arc n))

-- Prices fit counts where they do on each arc.
abbrev pub Fit : (ℕ → ℤ) → List Arc → List ℕ → Type 0
Fit price arcs counts = EachArc (FitsOn price) arcs counts
