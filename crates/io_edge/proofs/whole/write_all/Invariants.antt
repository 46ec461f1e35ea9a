use Rattle.std.proofs.Common.{◌≡◌, length}
use Rattle.io_edge.proofs.Copies.{Written}
use Rattle.io_edge.proofs.whole.write_all.Given as goal

abbrev pub invariant-loop-rest : goal.invariant-loop-rest
invariant-loop-rest g l = record {
  done : Written l.bytes l.rest (g.O.Sink.written l.initial.out) (g.O.Sink.written l.out);
  faults : g.O.Sink.faults l.out ≡ g.O.Sink.faults l.initial.out;
}

abbrev pub decreases-loop-rest : goal.decreases-loop-rest
decreases-loop-rest g l = length l.rest
