use Rattle.std.proofs.Common.{◌≡◌, ◌++◌}
use Rattle.case_model.specs.Bytes.{for_each_function}
use Rattle.case_model.specs.Info.{function_entry}
use Rattle.case_maker.proofs.info.push_info.Given as goal

abbrev pub invariant-loop-k : goal.invariant-loop-k
invariant-loop-k l = l.out.items ≡ l.initial.out.items ++ for_each_function function_entry l.k
