use Rattle.flow_model.specs.Network.{arcs_of}
use Rattle.path_search.specs.Ground.{arc_at, count_at}
use Rattle.path_search.proofs.AroundLemmas.{led_on_along}
use Rattle.path_search.proofs.around.look_around.Goals as goal

pub returns-clause-out : goal.returns-clause-out
returns-clause-out c = λ place within ends.
    led_on_along _ _ _ _ (arc_at (arcs_of c.args.net.now) place) (count_at c.args.counts.now place) c.in_ok-look_back.ensures.nearer
    (c.in_ok-look_out.ensures.out place within ends)

pub returns-clause-ways : goal.returns-clause-ways
returns-clause-ways c = λ excess source from.
    c.in_ok-look_back.ensures.ways excess source (c.in_ok-look_out.ensures.ways excess source from)
