-- What follows from the definitions.
use Rattle.std.specs.Prelude.{◌≡◌, ℕ, List}
use Rattle.block_model.specs.Function.{Function}
use Rattle.report_model.specs.Report.{Sampled}
use Rattle.output_model.specs.Program.{Program}
use Rattle.output_model.specs.Summary.{IsSummary}

-- A program, its samples and its functions have one summary, whichever least counts and cuts are found.
abbrev pub SummariesAreDetermined : Type 0
SummariesAreDetermined =
    (program : Program) (sampled : Sampled) (funs : List Function) (text other : List ℕ)
    → IsSummary program sampled funs text → IsSummary program sampled funs other → text ≡ other
