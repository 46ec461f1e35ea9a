use Rattle.std.proofs.Common.{◌∙◌, sym, ap, Some}
use Rattle.std.specs.List.{All}
use Rattle.flow_model.specs.declared.arc.Arc.{Arc}
use Rattle.flow_model.specs.Sound.{IsLimitedArc}
use Rattle.flow_model.proofs.LimitLemmas.{nets_are_limited}
use Rattle.flow_network.proofs.CutLemmas.{summed_more}
use Rattle.flow_network.proofs.cut.cut_sums.Goals as goal
use Rattle.std.proofs.Common.{List, length, subst}

pub loop-arc-preserved : goal.loop-arc-preserved
loop-arc-preserved c =
    let limited = (nets_are_limited c.args.net.now c.arcs-arc-items.ensures.of_a_function).arcs in
    let count = length c.args.net.now.blocks in
    let all = subst (λ (list : List Arc). All (IsLimitedArc count) list) (sym c.arcs-arc-items.ensures.arcs) limited in
    summed_more count _ _ _ _ _ _ _ _ all c.loop-arc-test.true c.loop-arc.invariant
    (c.from.ensures ∙ c.least_into.ensures) (sym c.in_ok-most_out_of.ensures ∙ ap Some (sym c.from-in-loop-arc.ensures))
