use Rattle.std.proofs.Common.{Some, None}
use Rattle.flow_network.specs.Flow.{counts_of, price_of}
use Rattle.dual_check.specs.declared.spot.Spot.TheVariants.{Block, Edge}
use Rattle.dual_check.proofs.FirstLemmas.{none_is_exact, none_shows_least}
use Rattle.dual_check.proofs.spot.first_bad.Goals as goal

pub returns-in-Some-clause-none : goal.returns-in-Some-clause-none
returns-in-Some-clause-none c =
    none_is_exact c.args.net.now (counts_of c.args.flow.now) (price_of c.args.prices.now) (Some (Block c.in-Some.block))
    c.in-Some.ensures.of_a_function c.in-Some.ensures.first

pub returns-in-Some-first_bad_edge-clause-none : goal.returns-in-Some-first_bad_edge-clause-none
returns-in-Some-first_bad_edge-clause-none c =
    none_is_exact c.args.net.now (counts_of c.args.flow.now) (price_of c.args.prices.now) (Some (Edge c.in-Some-first_bad_edge.edge))
    c.in-None.ensures.of_a_function (c.in-None.ensures.first, c.in-Some-first_bad_edge.ensures)

pub returns-in-None-first_bad_edge-clause-none : goal.returns-in-None-first_bad_edge-clause-none
returns-in-None-first_bad_edge-clause-none c =
    none_is_exact c.args.net.now (counts_of c.args.flow.now) (price_of c.args.prices.now) None
    c.in-None.ensures.of_a_function (record { blocks = c.in-None.ensures.first; edges = c.in-None-first_bad_edge.ensures })

pub returns-in-None-first_bad_edge-clause-least : goal.returns-in-None-first_bad_edge-clause-least
returns-in-None-first_bad_edge-clause-least c =
    none_shows_least c.args.net.now (counts_of c.args.flow.now) (price_of c.args.prices.now) None
    c.in-None.ensures.of_a_function (record { blocks = c.in-None.ensures.first; edges = c.in-None-first_bad_edge.ensures })
