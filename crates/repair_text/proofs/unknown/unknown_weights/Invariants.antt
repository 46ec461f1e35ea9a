use Rattle.repair_text.proofs.UnknownLemmas.{UnknownSoFar}
use Rattle.repair_text.proofs.unknown.unknown_weights.Given as goal

abbrev pub invariant-loop-edge : goal.invariant-loop-edge
invariant-loop-edge l = UnknownSoFar l.fun.edges l._edge-index l.made.items
