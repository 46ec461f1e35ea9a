-- What a summary tells of a binary, a branch text and a block text: how much there is of each, and what the profile and
-- the repairs come to.
use Rattle.std.specs.Prelude.{◌≡◌, ℕ, false, List, ◌++◌, codes, count_by, is_none, length, sum_by, Option, None, Some}
use Rattle.std.specs.List.{AllZip}
use Rattle.std.specs.Option.{unwrap_or}
use Rattle.text_model.specs.Lines.{lines_of}
use Rattle.text_model.specs.Numbers.{decimal_text}
use Rattle.block_model.specs.declared.parts.Weight.{Weight}
use Rattle.block_model.specs.Function.{Function}
use Rattle.block_model.specs.Text.{functions_of}
use Rattle.flow_model.specs.Network.{Counts, Network, network_of}
use Rattle.flow_model.specs.Repair.{AreLeast, ConserveWithinBounds, cost_of}
use Rattle.profile_model.specs.Profile.{Line, function_line, body_line, call_line, lines_of as lines_of_profile}
use Rattle.weight_model.specs.Blocks.{IsWeightOf}
use Rattle.repair_model.specs.Made.{weighed_edges}
use Rattle.report_model.specs.Report.{Sampled}
use Rattle.output_model.specs.Built.{count_of_way}
use Rattle.output_model.specs.Output.{sampled_by}
use Rattle.output_model.specs.Program.{Program, program_of, way_at}
use Rattle.output_model.specs.Sampled.{profile_of}

-- ---- what a summary says

-- Why: The total has no limit: it is no number of a profile's line.
pub record Summary : Type 0 where
  -- How many functions the block text has, and how many branches the branch text.
  pub functions : ℕ
  pub branches : ℕ
  -- The totals of all functions of the profile together.
  pub total : ℕ
  -- What all repairs by counts cost together, and how many functions have a cut in their place.
  pub cost : ℕ
  pub cuts : ℕ

-- A summary's one line.
unfoldable pub summary_text : Summary → List ℕ
summary_text s =
    codes "functions " ++ (decimal_text s.functions
    ++ (codes " branches " ++ (decimal_text s.branches
    ++ (codes " total " ++ (decimal_text s.total
    ++ (codes " cost " ++ (decimal_text s.cost
    ++ (codes " cuts " ++ (decimal_text s.cuts ++ codes "\n")))))))))

-- ---- totals

-- The total in the line of a function; no other line counts.
abbrev pub function_total : Line → ℕ
function_total (function_line name total head) = total
function_total (body_line depth offset disc count targets) = 0
function_total (call_line depth offset disc name total) = 0

-- The totals in lines, together.
abbrev pub totals_in : List Line → ℕ
totals_in lines = sum_by function_total lines

-- ---- costs

-- What the least counts of a network cost, or that no counts conserve within bounds.
abbrev pub IsLeastCost : Network → Option ℕ → Type 0
IsLeastCost net (Some cost) = (counts : Counts) × AreLeast net counts × (cost ≡ cost_of net counts)
IsLeastCost net None = (counts : Counts) → ConserveWithinBounds net counts → ⊥

-- What the repair of a function costs by the weights of its blocks, the edges being without; none where it is a cut.
pub record IsRepairCost {K : Type 0} (key : ℕ → Option K) (count : K → ℕ) (fun : Function) (cost : Option ℕ)
    : Type 0 where
  pub weights : List Weight
  pub weighed : AllZip (IsWeightOf key count) fun.blocks weights
  pub least : IsLeastCost
      (network_of fun.blocks fun.edges weights (weighed_edges None fun.blocks fun.edges weights)) cost

-- What all costs come to, where there are some; and how many there are not.
abbrev pub costs_in : List (Option ℕ) → ℕ
costs_in costs = sum_by (λ cost. unwrap_or cost 0) costs

abbrev pub cuts_in : List (Option ℕ) → ℕ
cuts_in costs = count_by is_none costs

-- ---- all together

-- A text is the summary of a program, its samples and functions.
pub record IsSummary (program : Program) (sampled : Sampled) (funs : List Function) (text : List ℕ) : Type 0 where
  pub costs : List (Option ℕ)
  pub each : AllZip (IsRepairCost (way_at program) (count_of_way program sampled)) funs costs
  pub spelled : text ≡ summary_text (record {
    functions = length funs;
    branches = length sampled.branches;
    total = totals_in (lines_of_profile (profile_of program sampled));
    cost = costs_in costs;
    cuts = cuts_in costs;
  })

-- What is written of a good binary, a good branch text and a good block text where a summary of them is asked for.
abbrev pub IsSummaryOf : List ℕ → List ℕ → List ℕ → List ℕ → Type 0
IsSummaryOf binary text blocks out =
    IsSummary (program_of binary false) (sampled_by None binary (lines_of text)) (functions_of blocks) out
