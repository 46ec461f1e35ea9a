-- The file of a case.
use Rattle.std.specs.Prelude.{ℕ, List}
use Rattle.case_model.specs.Elf.{binary}
use Rattle.case_model.specs.Samples.{branch_text}
use Rattle.case_model.specs.Blocks.{block_text}
use Rattle.case_maker.specs.declared.case.CasePart.{CasePart}
use Rattle.case_maker.specs.declared.case.CasePart.TheVariants.{Bin, Perf, Cfg}

-- The bytes of one of the three files, for a program of n functions.
abbrev pub case_file : CasePart → ℕ → List ℕ
case_file Bin n = binary n
case_file Perf n = branch_text n
case_file Cfg n = block_text n
