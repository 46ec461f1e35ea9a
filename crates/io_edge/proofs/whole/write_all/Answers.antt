use Rattle.std.proofs.Common.{rules, arith}
use Rattle.std.proofs.lemmas.Grind.{common_steps}
use Rattle.io_edge.proofs.Copies.{more_written, stopped, unfinished}
use Rattle.io_edge.proofs.whole.write_all.Goals as goal

pub returns-in_err-n-clause-prefix : goal.returns-in_err-n-clause-prefix
returns-in_err-n-clause-prefix g c =
    let prefix = stopped _ c.loop-rest.invariant.done c.in_err-n.ensures.written in
    search rules

pub loop-rest-preserved : goal.loop-rest-preserved
loop-rest-preserved g c = record {
  done = more_written _ _ _ c.loop-rest.invariant.done c.in_ok-n.ensures.written (grind (arith, common_steps));
  faults = search rules;
}

pub returns-in_err-finish-clause-prefix : goal.returns-in_err-finish-clause-prefix
returns-in_err-finish-clause-prefix g c =
    let prefix = unfinished _ c.loop-rest.invariant.done c.in_err-finish.ensures.written in
    search rules
