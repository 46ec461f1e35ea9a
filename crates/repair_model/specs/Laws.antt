-- What follows from the definitions.
use Rattle.std.specs.Prelude.{◌≡◌, ◌↔◌, ℕ, ◌+◌, ◌≤◌, ◌^◌, Bool, true, false, List, [], ◌∷◌, ◌++◌, length, map, None, Some}
use Rattle.std.specs.List.{AllByRecursion, AllZip, flat_map, list_any}
use Rattle.text_model.specs.Fields.{is_blank, is_filled}
use Rattle.text_model.specs.Laws.{ended, HasNoLineFeed}
use Rattle.block_model.specs.declared.parts.Weight.TheVariants.{Unknown}
use Rattle.block_model.specs.Function.{Function}
use Rattle.flow_model.specs.Sound.{AreWeights, IsSound}
use Rattle.repair_model.specs.Bits.{FitsBits}
use Rattle.repair_model.specs.Checking.{failed_in, network_by, weights_of_edges}
use Rattle.repair_model.specs.Made.{Repairs}
use Rattle.repair_model.specs.Line.{Line, line_of, line_text, begins_function}
use Rattle.repair_model.specs.Line.{begins_flow, begins_cut}
use Rattle.repair_model.specs.Repair.{Repair, Solution, flow, cut}
use Rattle.repair_model.specs.Judging.{first_bad_of_repairs}
use Rattle.repair_model.specs.Text.{lines_of_repair, repair_text, repairs_of}

-- A name can be a field: it has bytes, and no blank.
pub record IsName (name : List ℕ) : Type 0 where
  pub filled : is_filled name ≡ true
  pub clean : list_any is_blank name ≡ false

-- What a line can tell: its numbers are within their bits, and a name is one.
abbrev pub CanBeTold : Line → Type 0
CanBeTold (begins_flow name) = IsName name
CanBeTold (begins_cut name root) = IsName name
CanBeTold line = FitsBits line

-- A line that is written is read as that line. So no two of them are written alike.
abbrev pub WrittenLinesAreRead : Type 0
WrittenLinesAreRead = (line : Line) → CanBeTold line → line_of (line_text line) ≡ Some line

-- There is one of each for so many blocks and edges; a cut tells of no edge and counts have one number at their end.
abbrev pub HasShape : ℕ → ℕ → Repair → Solution → Type 0
HasShape blocks edges repair (flow counts ins outs) =
    (length counts.blocks ≡ blocks) × (length ins ≡ blocks) × (length outs ≡ blocks)
    × (length counts.edges ≡ edges) × (length repair.edge_weights ≡ edges) × (repair.second ≡ 0)
HasShape blocks edges repair (cut root ins outs) =
    (length ins ≡ blocks) × (length outs ≡ blocks) × (repair.edge_weights ≡ [])

-- A repair that can be told of a function, with the weights of its edges or, where these are unknown, without.
pub record IsRepairOf (weighed : Bool) (fun : Function) (repair : Repair) : Type 0 where
  pub weights : length repair.weights ≡ length fun.blocks
  pub shape : HasShape (length fun.blocks) (length fun.edges) repair repair.solution
  pub unweighed : weighed ≡ false → AllByRecursion (λ weight. weight ≡ Unknown) repair.edge_weights
  pub told : AllByRecursion CanBeTold (lines_of_repair weighed fun repair)

-- Two different repairs of a function never have the same lines.
abbrev pub RepairsAreApart : Type 0
RepairsAreApart =
    (weighed : Bool) (fun : Function) (repair other : Repair)
    → IsRepairOf weighed fun repair → IsRepairOf weighed fun other
    → map line_text (lines_of_repair weighed fun repair) ≡ map line_text (lines_of_repair weighed fun other)
    → repair ≡ other

-- A repair tells all of a function: a small weight for each block and edge, and what stands in their place.
pub record IsWhole (fun : Function) (repair : Repair) : Type 0 where
  pub weighed : AreWeights (length fun.blocks) repair.weights
  pub edges_weighed : AreWeights (length fun.edges) (weights_of_edges fun.edges repair.edge_weights repair.solution)
  pub shape : HasShape (length fun.blocks) (length fun.edges) repair repair.solution

-- All lines of a repair pass their tests exactly where it repairs its network: counts are least, with prices that fit
-- them, and the cost is theirs; or the set is a cut, with its sums.
abbrev pub PassingLinesRepair : Type 0
PassingLinesRepair =
    (fun : Function) (line : ℕ) (repair : Repair) → IsSound fun.blocks fun.edges → IsWhole fun repair
    → failed_in fun line repair ≡ None
    ↔ Repairs (network_by fun repair) repair.solution repair.first repair.second

-- A repair of a function, behind the number of its first line.
pub record IsToldOf (fun : Function) (numbered : ℕ × Repair) : Type 0 where
  pub whole : IsWhole fun numbered.1
  pub before : numbered.0 ≤ 2 ^ 63

-- Where no line of a repair text is bad, it tells all of each function, in order.
abbrev pub GoodRepairsAreWhole : Type 0
GoodRepairsAreWhole =
    (file : ℕ) (funs : List Function) (text : List ℕ) → length text ≤ 2 ^ 63
    → first_bad_of_repairs file funs text ≡ None → AllZip IsToldOf funs (repairs_of funs text)

-- Repairs of functions as they are written, one behind the other.
abbrev pub text_of_repairs : Bool → List Function → List Repair → List ℕ
text_of_repairs weighed (fun ∷ funs) (repair ∷ repairs) =
    repair_text weighed fun repair ++ text_of_repairs weighed funs repairs
text_of_repairs weighed _ _ = []

-- The same repairs, each behind the number of its first line; the first of them begins at this line.
abbrev pub numbered_repairs : Bool → ℕ → List Function → List Repair → List (ℕ × Repair)
numbered_repairs weighed line (fun ∷ funs) (repair ∷ repairs) =
    (line, repair) ∷ numbered_repairs weighed (line + length (lines_of_repair weighed fun repair)) funs repairs
numbered_repairs weighed line _ _ = []

-- A line that a repair text passes over outside of functions.
pub record IsPassedOver (line : List ℕ) : Type 0 where
  pub other : begins_function line ≡ false
  pub clean : HasNoLineFeed line

-- Repairs that are written are read as these repairs, and no line is bad, also between other lines. A name with a line
-- feed in it would break its line.
abbrev pub WrittenRepairsAreRead : Type 0
WrittenRepairsAreRead =
    (file : ℕ) (weighed : Bool) (funs : List Function) (repairs : List Repair) (before behind : List (List ℕ))
    (text : List ℕ)
    → AllByRecursion (λ fun. HasNoLineFeed fun.name) funs → AllZip (IsRepairOf weighed) funs repairs
    → AllByRecursion IsPassedOver before → AllByRecursion IsPassedOver behind
    → text ≡ flat_map ended before ++ (text_of_repairs weighed funs repairs ++ flat_map ended behind)
    → (first_bad_of_repairs file funs text ≡ None)
    × (repairs_of funs text ≡ numbered_repairs weighed (length before + 1) funs repairs)
