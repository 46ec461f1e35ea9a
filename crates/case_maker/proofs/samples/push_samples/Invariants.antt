use Rattle.std.proofs.Common.{◌≡◌, ◌++◌}
use Rattle.case_model.specs.Bytes.{for_each_function}
use Rattle.case_model.specs.Samples.{samples_of}
use Rattle.case_maker.proofs.samples.push_samples.Given as goal

abbrev pub invariant-loop-k : goal.invariant-loop-k
invariant-loop-k l = l.out.items ≡ l.initial.out.items ++ for_each_function (samples_of l.n) l.k
