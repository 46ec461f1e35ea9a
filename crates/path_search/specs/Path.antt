-- Ways over steps, and what is pushed along them.
use Rattle.std.specs.Prelude.{◌≡◌, ◌≢◌, ℕ, ◌+◌, ◌-◌, ◌^◌, ◌<◌, ◌≤◌, ⊤, List, [], ◌∷◌, length, slice_set, ℤ, pos}
use Rattle.std.specs.List.{All}
use Rattle.flow_model.specs.declared.arc.Arc.{Arc}
use Rattle.residual_model.specs.Residual.{reduced, TakesMore, TakesLess}
use Rattle.reached_sides.specs.declared.mark.Way.{Way}
use Rattle.reached_sides.specs.declared.mark.Way.TheVariants.{Along, Against}
use Rattle.path_search.specs.Ground.{arc_at, count_at}
use Rattle.path_search.specs.Ways.{start_of, end_of, IsOpen, cost_of_step}
use Rattle.path_search.specs.declared.step.Step.{Step}

-- Where a step starts.
abbrev pub step_start : List Arc → Step → ℕ
step_start arcs step = start_of step.way (arc_at arcs step.arc)

-- Where it leads.
abbrev pub step_end : List Arc → Step → ℕ
step_end arcs step = end_of step.way (arc_at arcs step.arc)

-- Steps lead from a source to a side; the last one stands first.
abbrev pub LeadBack : List Arc → ℕ → ℕ → List Step → Type 0
LeadBack arcs source side [] = side ≡ source
LeadBack arcs source side (step ∷ steps) =
    (step_end arcs step ≡ side) × LeadBack arcs source (step_start arcs step) steps

-- No arc is taken twice.
abbrev pub AreApart : List Step → Type 0
AreApart [] = ⊤
AreApart (step ∷ steps) = All (λ other. other.arc ≢ step.arc) steps × AreApart steps

-- A step over an arc of the network that the count leaves.
pub record IsOpenStep (arcs : List Arc) (counts : List ℕ) (step : Step) : Type 0 where
  pub inside : step.arc < length arcs
  pub leaves : IsOpen step.way (arc_at arcs step.arc) (count_at counts step.arc)

-- A step costs as much as the price rises on it.
abbrev pub IsTight : List Arc → List ℕ → (ℕ → ℤ) → Step → Type 0
IsTight arcs counts price step =
    reduced price (step_start arcs step) (step_end arcs step)
    (cost_of_step step.way (arc_at arcs step.arc) (count_at counts step.arc)) ≡ pos 0

-- A way from a source to a side over open steps, each arc at most once, that costs what the price rises.
pub record IsPath (arcs : List Arc) (counts : List ℕ) (price : ℕ → ℤ) (source side : ℕ) (steps : List Step)
    : Type 0 where
  pub leads : LeadBack arcs source side steps
  pub apart : AreApart steps
  pub leave : All (IsOpenStep arcs counts) steps
  pub tight : All (IsTight arcs counts price) steps

-- So much may be moved over an arc this way, at the same cost for each unit.
abbrev pub Takes : Way → Arc → ℕ → ℕ → Type 0
Takes Along arc n amount = TakesMore arc n amount
Takes Against arc n amount = TakesLess arc n amount

-- And over a step.
abbrev pub StepTakes : List Arc → List ℕ → ℕ → Step → Type 0
StepTakes arcs counts amount step = Takes step.way (arc_at arcs step.arc) (count_at counts step.arc) amount

-- The count behind a push.
abbrev pub count_after : Way → ℕ → ℕ → ℕ
count_after Along n amount = n + amount
count_after Against n amount = n - amount

-- The counts behind a push over one step.
abbrev pub push_once : ℕ → Step → List ℕ → List ℕ
push_once amount step counts =
    slice_set counts step.arc (count_after step.way (count_at counts step.arc) amount)

-- The counts behind a push over each step.
abbrev pub pushed : ℕ → List Step → List ℕ → List ℕ
pushed amount [] counts = counts
pushed amount (step ∷ steps) counts = pushed amount steps (push_once amount step counts)

-- A count stays a number of 64 bits.
abbrev pub StaysSmall : Way → ℕ → ℕ → Type 0
StaysSmall Along n amount = n + amount < 2 ^ 64
StaysSmall Against n amount = amount ≤ n

-- A push over a step stays within the counts.
pub record IsPushable (counts : List ℕ) (amount : ℕ) (step : Step) : Type 0 where
  pub inside : step.arc < length counts
  pub small : StaysSmall step.way (count_at counts step.arc) amount
