-- The steps that counts leave on a network: along an arc where one more may pass, against it where one less may.
use Rattle.std.specs.Prelude.{ℕ, ◌+◌, ◌-◌, ◌<◌, ◌≤◌, max, min, List, Option, None, Some, ℤ, pos, ◌-ℤ◌}
use Rattle.flow_model.specs.declared.arc.Arc.{Arc}
use Rattle.flow_model.specs.Circulation.{EachArc, IsAtMost, inflow, outflow, cost_on}
use Rattle.flow_model.specs.Prices.{IsBelow}

-- What one unit more costs on an arc.
abbrev pub cost_of_more : Arc → ℕ → ℤ
cost_of_more arc n = pos (cost_on arc (n + 1)) -ℤ pos (cost_on arc n)

-- What one unit less costs on an arc.
abbrev pub cost_of_less : Arc → ℕ → ℤ
cost_of_less arc n = pos (cost_on arc (n - 1)) -ℤ pos (cost_on arc n)

-- A fact of the steps that a count leaves on an arc, each by where it starts, where it leads and what a unit costs.
pub record StepsOn (P : ℕ → ℕ → ℤ → Type 0) (arc : Arc) (n : ℕ) : Type 0 where
  pub along : IsBelow arc.upper n → P arc.tail arc.head (cost_of_more arc n)
  pub against : arc.lower < n → P arc.head arc.tail (cost_of_less arc n)

-- A fact of each step.
abbrev pub EachStep : (ℕ → ℕ → ℤ → Type 0) → List Arc → List ℕ → Type 0
EachStep P arcs counts = EachArc (StepsOn P) arcs counts

-- What a step costs beyond what the price rises on it.
abbrev pub reduced : (ℕ → ℤ) → ℕ → ℕ → ℤ → ℤ
reduced price from to cost = cost -ℤ (price to -ℤ price from)

-- What enters a node beyond what leaves it.
abbrev pub excess : List Arc → List ℕ → ℕ → ℤ
excess arcs counts node = pos (inflow arcs counts node) -ℤ pos (outflow arcs counts node)

-- A number, or the bound if that is less.
abbrev pub capped : Option ℕ → ℕ → ℕ
capped None n = n
capped (Some upper) n = min n upper

-- The count to start from: the weight, moved into the bounds.
abbrev pub starting : Arc → ℕ
starting arc = capped arc.upper (max arc.weight arc.lower)

-- So many more may pass, all of them below the weight or all above it.
pub record TakesMore (arc : Arc) (n amount : ℕ) : Type 0 where
  pub bounded : IsAtMost arc.upper (n + amount)
  pub alike : n < arc.weight → n + amount ≤ arc.weight

-- So many fewer may pass, all of them below the weight or all above it.
pub record TakesLess (arc : Arc) (n amount : ℕ) : Type 0 where
  pub bounded : arc.lower + amount ≤ n
  pub alike : arc.weight < n → arc.weight + amount ≤ n

-- The price of a node that falls by what the node is nearer than a limit.
abbrev pub moved : (ℕ → ℤ) → (ℕ → ℕ) → ℕ → ℕ → ℤ
moved price distance limit node = price node -ℤ pos (limit - distance node)
