use Rattle.std.proofs.Common.{◌≡◌, ◌++◌}
use Rattle.case_model.specs.Bytes.{for_each_function}
use Rattle.case_model.specs.Blocks.{blocks_of}
use Rattle.case_maker.proofs.blocks.push_blocks.Given as goal

abbrev pub invariant-loop-k : goal.invariant-loop-k
invariant-loop-k l = l.out.items ≡ l.initial.out.items ++ for_each_function blocks_of l.k
