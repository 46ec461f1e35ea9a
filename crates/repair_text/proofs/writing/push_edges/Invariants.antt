-- What was written, and the lines that are left, are all; and the numbers in those that were written fit their bits.
use Rattle.std.specs.Prelude.{is_some}
use Rattle.flow_network.specs.Flow.{counts_of}
use Rattle.repair_model.specs.Repair.{flow}
use Rattle.repair_model.specs.Text.{line_of_edge}
use Rattle.repair_text.specs.Repair.{weights_of}
use Rattle.repair_text.proofs.LoopLemmas.{WroteEdges}
use Rattle.repair_text.proofs.writing.push_edges.Given as goal

abbrev pub invariant-loop-place : goal.invariant-loop-place
invariant-loop-place l =
    WroteEdges (line_of_edge (is_some l.weights) (weights_of l.weights) (flow (counts_of l.flow) l.prices.ins l.prices.outs))
    l.edges l.place (weights_of l.weights) l.fn.text.items l.text.items
