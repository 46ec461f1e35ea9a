-- The parts of the text, one behind the other.
use Rattle.std.proofs.Common.{sym, ◌∙◌}
use Rattle.std.proofs.lemmas.List.{append-nil}
use Rattle.repair_text.proofs.LoopLemmas.{parts_of_text, joined, repair_fits, sums_told}
use Rattle.repair_text.proofs.writing.push_cut.Goals as goal

pub returns-clause-written : goal.returns-clause-written
returns-clause-written c = λ weighed.
    let count = c.block_count.ensures.value ∙ sym c.requires.blocks in
    let sums = sums_told _ _ _ _ c.in-Some.ensures in
    joined _ _ _ _ c.args.text.now.items c.push_begin_of_cut.new.text.items c.push_nodes.new.text.items c.push_nodes.new.text.items
    c.push_end_of_cut.new.text.items _ c.in_ok-push_begin_of_cut.ensures (rw count at c.in_ok-push_nodes.ensures.written)
    (sym (append-nil c.push_nodes.new.text.items)) (rw (sums.0, sums.1) at c.in_ok-push_end_of_cut.ensures.written) (parts_of_text weighed _ _)

pub returns-clause-fits : goal.returns-clause-fits
returns-clause-fits c = λ weighed small.
    let count = c.block_count.ensures.value ∙ sym c.requires.blocks in
    let sums = sums_told _ _ _ _ c.in-Some.ensures in
    repair_fits weighed _ _ (rw count at (c.in_ok-push_nodes.ensures.fits small)) tt (rw (sums.0, sums.1) at c.in_ok-push_end_of_cut.ensures.fits)
