-- What follows from the definitions.
use Rattle.std.specs.Prelude.{◌≡◌, ℕ, List, map}
use Rattle.block_model.specs.Function.{Function}
use Rattle.profile_model.specs.Profile.{Profile}
use Rattle.repair_model.specs.Repair.{Repair}
use Rattle.report_model.specs.Report.{Sampled}
use Rattle.output_model.specs.declared.options.RepairOptions.{RepairOptions}
use Rattle.output_model.specs.Cold.{cold_lines}
use Rattle.output_model.specs.Lift.{held_by}
use Rattle.output_model.specs.Output.{output_text}
use Rattle.output_model.specs.Program.{Program, way_at}
use Rattle.output_model.specs.Scaled.{IsBuiltBy}
use Rattle.output_model.specs.Summary.{IsSummary}
use Rattle.asked_laws.specs.Alike.{AnswerAlike, AreAlikeInBlocks, ColdAlike}

-- A profile and its report ask a program for the places of the ends of sampled branches, and of addresses that ran.
abbrev pub ProfilesAskNoMore : Type 0
ProfilesAskNoMore =
    (sampled : Sampled) (program other : Program) → AnswerAlike sampled program other
    → output_text program sampled ≡ output_text other sampled

-- Repairs ask for the places in blocks besides.
abbrev pub BuildsAskNoMore : Type 0
BuildsAskNoMore =
    (options : RepairOptions) (sampled : Sampled) (program other : Program) (funs : List Function) (text : List ℕ)
    → AnswerAlike sampled program other → AreAlikeInBlocks program other funs
    → IsBuiltBy options program sampled funs text → IsBuiltBy options other sampled funs text

-- So does a summary.
abbrev pub SummariesAskNoMore : Type 0
SummariesAskNoMore =
    (sampled : Sampled) (program other : Program) (funs : List Function) (text : List ℕ)
    → AnswerAlike sampled program other → AreAlikeInBlocks program other funs
    → IsSummary program sampled funs text → IsSummary other sampled funs text

-- What is lifted asks for the places in blocks alone.
abbrev pub LiftsAskNoMore : Type 0
LiftsAskNoMore =
    (program other : Program) (repaired : List (Function × Repair))
    → AreAlikeInBlocks program other (map (λ it. it.0) repaired)
    → held_by (way_at program) repaired ≡ held_by (way_at other) repaired

-- Lines that never ran ask for the places whose functions stand in the profile.
abbrev pub ColdLinesAskNoMore : Type 0
ColdLinesAskNoMore =
    (p : Profile) (program other : Program) → ColdAlike p program other → cold_lines program p ≡ cold_lines other p
