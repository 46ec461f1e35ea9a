use Rattle.std.proofs.Common.{length}
use Rattle.address_spans.proofs.cover.+disjoint.Given as goal

abbrev pub decreases-disjoint : goal.decreases-disjoint
decreases-disjoint l = length l.spans.now
