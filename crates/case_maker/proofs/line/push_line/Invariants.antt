use Rattle.std.proofs.Common.{◌≡◌, ◌++◌}
use Rattle.case_model.specs.Bytes.{for_each_function}
use Rattle.case_model.specs.Line.{sequence}
use Rattle.case_maker.proofs.line.push_line.Given as goal

abbrev pub invariant-loop-k : goal.invariant-loop-k
invariant-loop-k l = l.out.items ≡ l.initial.out.items ++ for_each_function sequence l.k
