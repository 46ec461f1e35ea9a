use Rattle.std.proofs.Common.{◌≡◌, ◌-◌}
use Rattle.sample_model.specs.Limits.{max_text_bytes}
use Rattle.program_edge.proofs.BranchTextLemmas.{ReadSoFar}
use Rattle.program_edge.proofs.branch_text.feed_all.Given as goal

abbrev pub invariant-loop-n : goal.invariant-loop-n
invariant-loop-n g l = record {
  done : ReadSoFar l.initial.reader.loading l.k (g.I.Inputs.left l.initial.inputs) (g.I.Inputs.left l.inputs) l.reader l.counts;
  store : g.I.Inputs.store l.inputs ≡ g.I.Inputs.store l.initial.inputs;
  opens : g.I.Inputs.opens l.inputs ≡ g.I.Inputs.opens l.initial.inputs;
  ranged : l.counts.with_ranges ≡ l.initial.counts.with_ranges;
  faults : g.I.Inputs.faults l.inputs ≡ g.I.Inputs.faults l.initial.inputs;
}

abbrev pub decreases-loop-n : goal.decreases-loop-n
decreases-loop-n g l = max_text_bytes - l.reader.size
