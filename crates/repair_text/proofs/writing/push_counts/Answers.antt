-- One line more was written, and its numbers fit their bits.
use Rattle.repair_text.proofs.LoopLemmas.{all_fit, small_at, wrote_more}
use Rattle.repair_text.proofs.writing.push_counts.Goals as goal

pub loop-number-preserved : goal.loop-number-preserved
loop-number-preserved c =
    wrote_more _ c.args.count c.loop-number.number c.args.weights.now _ c.loop-number.text.items c.push_count.new.text.items
    c.loop-number-test.true c.loop-number.invariant
    (rw (← c.as_slice-counts.ensures, ← c.as_slice-ins.ensures, ← c.as_slice-outs.ensures) c.in_ok-push_count.ensures.written)
    (λ small. rw (← c.as_slice-counts.ensures, ← c.as_slice-ins.ensures, ← c.as_slice-outs.ensures)
    (c.in_ok-push_count.ensures.fits (small_at c.args.weights.now c.loop-number.number small)))

pub returns-clause-fits : goal.returns-clause-fits
returns-clause-fits c = all_fit _ c.args.count c.loop-number.number c.args.weights.now _ c.loop-number.text.items c.loop-number.invariant c.loop-number-test.false
