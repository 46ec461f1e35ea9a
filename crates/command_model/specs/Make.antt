-- What `make` writes of a generated case.
use Rattle.std.specs.Prelude.{ℕ, List}
use Rattle.case_model.specs.Blocks.{block_text}
use Rattle.case_model.specs.Elf.{binary}
use Rattle.case_model.specs.Samples.{branch_text}
use Rattle.command_model.specs.Command.{CaseFile, bin_file, perf_file, cfg_file}

-- The bytes of a file of the case of n functions.
abbrev pub case_file : CaseFile → ℕ → List ℕ
case_file bin_file n = binary n
case_file perf_file n = branch_text n
case_file cfg_file n = block_text n
