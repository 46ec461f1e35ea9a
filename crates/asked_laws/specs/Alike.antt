-- Programs that tell the same of what is asked of them.
use Rattle.std.specs.Prelude.{◌≡◌, ◌⊎◌, ℕ, ◌<◌, ◌≤◌, ⊤, false, List, Contains, Option, None, Some}
use Rattle.std.specs.List.{AllByRecursion}
use Rattle.block_model.specs.declared.parts.Block.{Block}
use Rattle.block_model.specs.Function.{Function}
use Rattle.cold_model.specs.Cold.{stands_in}
use Rattle.profile_model.specs.Profile.{Profile}
use Rattle.profile_model.specs.Ways.{Way}
use Rattle.report_model.specs.Report.{Sampled}
use Rattle.output_model.specs.Program.{Program, way_at}
use Rattle.output_model.specs.Sampled.{hits_of}

-- Two programs answer samples alike: the function of each address is the same, and what is entered where a sampled
-- branch leads to; so are the places of both ends of each sampled branch, and of each address that ran the place and
-- how often its code was copied.
pub record AnswerAlike (sampled : Sampled) (program other : Program) : Type 0 where
  pub function : (address : ℕ) → program.function address ≡ other.function address
  pub entered : (branch : ℕ × ℕ) → Contains sampled.branches branch → program.entered branch.1 ≡ other.entered branch.1
  pub from : (branch : ℕ × ℕ) → Contains sampled.branches branch → program.place branch.0 ≡ other.place branch.0
  pub to : (branch : ℕ × ℕ) → Contains sampled.branches branch → program.place branch.1 ≡ other.place branch.1
  pub ran : (address : ℕ) → 0 < hits_of program sampled address → program.place address ≡ other.place address
  pub factor : (address : ℕ) → 0 < hits_of program sampled address → program.factor address ≡ other.factor address

-- They have the same places in a block.
abbrev pub AreAlikeIn : Program → Program → Block → Type 0
AreAlikeIn program other block =
    (address : ℕ) → block.lo ≤ address → address < block.hi → program.place address ≡ other.place address

-- They have the same places in all blocks of some functions.
abbrev pub AreAlikeInBlocks : Program → Program → List Function → Type 0
AreAlikeInBlocks program other funs =
    AllByRecursion (λ fun. AllByRecursion (AreAlikeIn program other) fun.blocks) funs

-- A way, if there is one, leads from a function that stands nowhere in a profile.
abbrev pub StandsNowhere : Profile → Option Way → Type 0
StandsNowhere p None = ⊤
StandsNowhere p (Some way) = stands_in p way ≡ false

-- Two programs are alike for lines that never ran: at each address they have the same place, or both a way whose
-- function stands nowhere in the profile, or none.
abbrev pub ColdAlike : Profile → Program → Program → Type 0
ColdAlike p program other =
    (address : ℕ) → (program.place address ≡ other.place address)
    ⊎ (StandsNowhere p (way_at program address) × StandsNowhere p (way_at other address))
