-- All lines were written, and their numbers fit their bits.
use Rattle.repair_text.specs.Repair.{weights_of}
use Rattle.repair_text.proofs.LoopLemmas.{all_edges_fit}
use Rattle.repair_text.proofs.writing.push_edges.Goals as goal

pub returns-clause-fits : goal.returns-clause-fits
returns-clause-fits c =
    all_edges_fit _ c.args.edges.now c.loop-place.place (weights_of c.args.weights) _ c.loop-place.text.items c.loop-place.invariant c.loop-place-test.false
