-- A profile, with the branches that it was made of.
use Rattle.std.specs.Prelude.{◌≡◌, ℕ, List, length}
use Rattle.branch_counts.specs.Table.{Tallies}
use Rattle.key_types.specs.declared.places.Seg.{Seg}
use Rattle.block_model.specs.Function.{Function}
use Rattle.asked_laws.specs.Alike.{AnswerAlike, AreAlikeInBlocks}
use Rattle.sample_model.specs.declared.pair.Pair.{Pair}
use Rattle.report_model.specs.Report.{Sampled}
use Rattle.output_model.specs.Program.{Program}
use Rattle.profile_writer.specs.Profile.{IsProfileOf, Parts}

-- The parts are those of the profile of a program and its samples, the rows tell of the sampled branches, and the total
-- is how many these are.
pub record IsProfiled
    (program : Program) (sampled : Sampled) (names : List (List ℕ)) (segments : List Seg)
    (parts : Parts) (branches : List Pair) (total : ℕ) : Type 0 where
  pub profile : IsProfileOf program sampled names segments parts
  pub tallied : Tallies sampled.branches branches
  pub total_is : total ≡ length sampled.branches

-- The parts are those of a program that answers samples as another does, and has the same places in the blocks of some
-- functions.
pub record IsProfiledLike
    (other : Program) (funs : List Function) (sampled : Sampled) (names : List (List ℕ)) (segments : List Seg)
    (parts : Parts) (branches : List Pair) (total : ℕ) : Type 0 where
  pub program : Program
  pub answers : AnswerAlike sampled program other
  pub in_blocks : AreAlikeInBlocks program other funs
  pub profiled : IsProfiled program sampled names segments parts branches total
