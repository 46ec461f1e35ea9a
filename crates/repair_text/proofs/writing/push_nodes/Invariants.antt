-- What was written, and the lines that are left, are all; and the numbers in those that were written fit their bits.
use Rattle.std.specs.Prelude.{slice_index_or}
use Rattle.block_model.specs.declared.parts.Weight.TheVariants.{Unknown}
use Rattle.repair_model.specs.Repair.{cut}
use Rattle.repair_model.specs.Text.{line_of_block}
use Rattle.repair_text.proofs.LoopLemmas.{WroteLines}
use Rattle.repair_text.proofs.writing.push_nodes.Given as goal

abbrev pub invariant-loop-number : goal.invariant-loop-number
invariant-loop-number l =
    WroteLines (λ n. line_of_block n (slice_index_or l.weights n Unknown) (cut l.nodes.root l.nodes.ins l.nodes.outs)) l.count l.number l.weights l.fn.text.items l.text.items
