-- What `build` writes by its options: what is built, and, where augmentations are bounded, how many were made.
use Rattle.std.specs.Prelude.{◌≡◌, ℕ, ◌+◌, ◌*◌, ◌≤◌, List, [], ◌∷◌, ◌++◌, codes, Option, if◌then◌else◌}
use Rattle.std.specs.List.{AllZip}
use Rattle.text_model.specs.Lines.{lines_of}
use Rattle.text_model.specs.Numbers.{decimal_text}
use Rattle.block_model.specs.declared.parts.Weight.{Weight}
use Rattle.block_model.specs.Function.{Function}
use Rattle.block_model.specs.Text.{functions_of}
use Rattle.flow_model.specs.Network.{Network, network_of}
use Rattle.report_model.specs.Report.{Sampled}
use Rattle.repair_model.specs.Made.{EdgeTold, weighed_edges}
use Rattle.scaling_model.specs.Bound.{StartWithin, most_digits, phase_bound}
use Rattle.weight_model.specs.Blocks.{IsWeightOf}
use Rattle.output_model.specs.declared.options.RepairOptions.{RepairOptions}
use Rattle.output_model.specs.Built.{IsBuilt, count_of_way, edges_of}
use Rattle.output_model.specs.Options.{Options}
use Rattle.output_model.specs.Output.{loading_of, sampled_by}
use Rattle.output_model.specs.Program.{Program, program_of, way_at}

-- So many augmentations are within the bound of a network: that of a phase for each binary digit of the greatest count
-- to start from, and for one phase more; and none where a count to start from has too many digits.
pub record AreAugmentations (net : Network) (count : ℕ) : Type 0 where
  pub few : (digits : ℕ) → StartWithin digits net → count ≤ (digits + 1) * phase_bound net
  pub none : (StartWithin most_digits net → ⊥) → count ≡ 0

-- The augmentations of one function: within the bound of its network, by the weights of its blocks and edges.
pub record AreAugmentationsOf {K : Type 0} (key : ℕ → Option K) (count : K → ℕ) (edges : Option EdgeTold)
    (fun : Function) (augmentations : ℕ) : Type 0 where
  pub weights : List Weight
  pub weighed : AllZip (IsWeightOf key count) fun.blocks weights
  pub within : AreAugmentations
      (network_of fun.blocks fun.edges weights (weighed_edges edges fun.blocks fun.edges weights)) augmentations

-- The augmentations of some functions, together.
-- Why: The number of `--scaled` is bound by a relation, since which augmentations are made is free, as which least
-- counts are. A block text has at most as many functions as bytes, so the number stays below 2^63.
abbrev pub AreAllAugmentations : {K : Type 0} → (ℕ → Option K) → (K → ℕ) → Option EdgeTold → List Function → ℕ → Type 0
AreAllAugmentations key count edges [] augmentations = augmentations ≡ 0
AreAllAugmentations key count edges (fun ∷ funs) augmentations =
    (first : ℕ) × (rest : ℕ) × (augmentations ≡ first + rest) × AreAugmentationsOf key count edges fun first
    × AreAllAugmentations key count edges funs rest

-- The line that tells how many there were.
unfoldable pub augmentations_line : ℕ → List ℕ
augmentations_line augmentations = codes "# augmentations " ++ (decimal_text augmentations ++ codes "\n")

-- A text is what is built of a program, its samples and functions, and behind it the number of augmentations, where
-- it is asked for.
pub record IsBuiltBy
    (options : RepairOptions) (program : Program) (sampled : Sampled) (funs : List Function) (text : List ℕ)
    : Type 0 where
  pub built : List ℕ
  pub is_built : IsBuilt options.edges program sampled funs built
  pub augmentations : ℕ
  pub counted : AreAllAugmentations
      (way_at program) (count_of_way program sampled) (edges_of options.edges program sampled) funs augmentations
  pub spelled : text ≡ built ++ (if options.scaled then augmentations_line augmentations else [])

-- What may be written of a good binary, a good branch text and a good block text.
abbrev pub IsBuiltOf : Options → List ℕ → List ℕ → List ℕ → List ℕ → Type 0
IsBuiltOf options binary text blocks out =
    IsBuiltBy options.repairs (program_of binary options.base)
    (sampled_by (loading_of options.map binary) binary (lines_of text)) (functions_of blocks) out
