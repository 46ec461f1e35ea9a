use Rattle.flow_network.specs.Flow.{holds}
use Rattle.flow_network.proofs.CutLemmas.{SummedTo}
use Rattle.flow_network.proofs.cut.cut_sums.Given as goal

abbrev pub invariant-loop-arc : goal.invariant-loop-arc
invariant-loop-arc l = SummedTo (holds l.nodes) l.arc-items l.arc-index l.least l.most
