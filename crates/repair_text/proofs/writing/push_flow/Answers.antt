-- The parts of the text, one behind the other.
use Rattle.std.proofs.Common.{sym, ◌∙◌}
use Rattle.repair_text.proofs.LoopLemmas.{parts_of_text, joined, repair_fits}
use Rattle.repair_text.proofs.writing.push_flow.Goals as goal

pub returns-clause-written : goal.returns-clause-written
returns-clause-written c =
    let count = c.block_count.ensures.value ∙ sym c.requires.blocks in
    joined _ _ _ _ c.args.text.now.items c.push_begin_of_flow.new.text.items c.push_counts.new.text.items c.push_edges.new.text.items
    c.push_end_of_flow.new.text.items _ c.in_ok-push_begin_of_flow.ensures (rw count at c.in_ok-push_counts.ensures.written)
    (rw c.as_slice.ensures at c.in_ok-push_edges.ensures.written) (rw c.cost.ensures at c.in_ok-push_end_of_flow.ensures.written) (parts_of_text _ _ _)

pub returns-clause-fits : goal.returns-clause-fits
returns-clause-fits c = λ small edges_small.
    let count = c.block_count.ensures.value ∙ sym c.requires.blocks in
    repair_fits _ _ _ (rw count at (c.in_ok-push_counts.ensures.fits small)) (rw c.as_slice.ensures at (c.in_ok-push_edges.ensures.fits edges_small))
    (rw c.cost.ensures at c.in_ok-push_end_of_flow.ensures.fits)
