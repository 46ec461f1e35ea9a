use Rattle.std.proofs.Common.{◌≡◌, ◌+◌, length}
use Rattle.io_edge.proofs.Copies.{Read}
use Rattle.io_edge.proofs.whole.read_whole.Given as goal

abbrev pub invariant-loop-n : goal.invariant-loop-n
invariant-loop-n g l = record {
  done : Read l.initial.into.items l.into.items (g.I.Inputs.left l.initial.inputs) (g.I.Inputs.left l.inputs);
  room : length l.into.items + l.room ≡ length l.initial.into.items + l.limit;
  store : g.I.Inputs.store l.inputs ≡ g.I.Inputs.store l.initial.inputs;
  opens : g.I.Inputs.opens l.inputs ≡ g.I.Inputs.opens l.initial.inputs;
  faults : g.I.Inputs.faults l.inputs ≡ g.I.Inputs.faults l.initial.inputs;
}

abbrev pub decreases-loop-n : goal.decreases-loop-n
decreases-loop-n g l = l.room
