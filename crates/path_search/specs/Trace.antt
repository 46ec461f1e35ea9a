-- What the marks of a search tell of the way to the side that it has come to.
use Rattle.std.specs.Prelude.{◌≡◌, ◌≢◌, ℕ, ⊤, true, ◌⊎◌, List, Option, None, Some, ℤ}
use Rattle.std.specs.List.{All}
use Rattle.flow_model.specs.declared.arc.Arc.{Arc}
use Rattle.flow_model.specs.Network.{Network, arcs_of}
use Rattle.residual_model.specs.Residual.{moved}
use Rattle.reached_sides.specs.declared.mark.Mark.{Mark}
use Rattle.path_search.specs.Ground.{price_at}
use Rattle.path_search.specs.Search.{distance_at, is_settled, mark_at}
use Rattle.path_search.specs.Task.{task_of}
use Rattle.path_search.specs.Ways.{HasWays}
use Rattle.path_search.specs.declared.step.Step.{Step}
use Rattle.path_search.specs.Path.{IsPath, step_end}

-- Marks are those of some search from the source that came to the side.
pub record IsTraceable (net : Network) (source : ℕ) (marks : List (Option Mark)) (side : ℕ) : Type 0 where
  pub counts : List ℕ
  pub prices : List ℤ
  pub excess : List ℤ
  pub ways : HasWays (task_of net counts prices excess source) marks side

-- The mark of a step's end, which is the side that the search has come to or a settled one, tells the step.
pub record IsTold (arcs : List Arc) (marks : List (Option Mark)) (source side : ℕ) (step : Step) : Type 0 where
  pub mark : Mark
  pub at : mark_at marks (step_end arcs step) ≡ Some mark
  pub same_arc : step.arc ≡ mark.arc
  pub same_way : step.way ≡ mark.way
  pub apart : step_end arcs step ≢ source
  pub known : (step_end arcs step ≡ side) ⊎ (is_settled (mark_at marks (step_end arcs step)) ≡ true)

-- Steps are the way that the search has found, whatever counts and prices it went by.
pub record IsTraced (net : Network) (source : ℕ) (marks : List (Option Mark)) (side : ℕ) (steps : List Step)
    : Type 0 where
  pub told : All (IsTold (arcs_of net) marks source side) steps
  pub path : (counts : List ℕ) (prices excess : List ℤ) → HasWays (task_of net counts prices excess source) marks side
      → IsPath (arcs_of net) counts (moved (price_at prices) (distance_at marks) (distance_at marks side)) source side
      steps

-- A mark tells this step.
abbrev pub TellsStep : Option Mark → Step → Type 0
TellsStep None step = ⊤
TellsStep (Some mark) step = step ≡ record { arc = mark.arc; way = mark.way }
