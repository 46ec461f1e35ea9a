use Rattle.std.proofs.Common.{◌≡◌, codes, length}
use Rattle.sample_model.specs.Loads.{behind_first}
use Rattle.branch_lines.proofs.load.behind_mark.Given as goal

abbrev pub invariant-loop-rest : goal.invariant-loop-rest
invariant-loop-rest l = behind_first (codes "PERF_RECORD_MMAP2 ") l.rest ≡ behind_first (codes "PERF_RECORD_MMAP2 ") l.line

abbrev pub decreases-loop-rest : goal.decreases-loop-rest
decreases-loop-rest l = length l.rest
