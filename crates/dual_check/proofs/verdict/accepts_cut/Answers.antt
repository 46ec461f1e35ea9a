use Rattle.std.proofs.lemmas.Bool.{ltb-true}
use Rattle.flow_model.specs.Network.{arcs_of}
use Rattle.flow_model.proofs.LawLemmas.{a_cut_shows_no_counts}
use Rattle.flow_network.specs.Flow.{holds}
use Rattle.dual_check.proofs.FitLemmas.{cut_from}
use Rattle.dual_check.proofs.verdict.accepts_cut.Goals as goal

pub returns-in-Some-clause-none : goal.returns-in-Some-clause-none
returns-in-Some-clause-none c = λ passed counts conserve.
    a_cut_shows_no_counts c.args.net.now (holds c.args.nodes.now)
    (cut_from (holds c.args.nodes.now) (arcs_of c.args.net.now) c.in-Some.least c.in-Some.most c.in-Some.ensures (ltb-true _ _ passed))
    counts conserve
