use Rattle.std.proofs.Common.{◌≡◌, length}
use Rattle.branch_stacks.proofs.ReaderLemmas.{FedSoFar}
use Rattle.branch_stacks.proofs.reader.Reader.read_lines.Given as goal

abbrev pub invariant-loop-end : goal.invariant-loop-end
invariant-loop-end l = record {
  fed : FedSoFar l.initial.self l.initial.counts l.part l.rest l.self l.counts;
  ranged : l.counts.with_ranges ≡ l.initial.counts.with_ranges;
}

abbrev pub decreases-loop-end : goal.decreases-loop-end
decreases-loop-end l = length l.rest
