use Rattle.std.proofs.Common.{◌∙◌, ap, arith, length, sym}
use Rattle.std.proofs.lemmas.List.{get_or_read}
use Rattle.flow_model.specs.Circulation.{root}
use Rattle.flow_model.specs.Network.{Network, free_arc}
use Rattle.flow_network.proofs.CoarseLemmas.{ArePutTogether, IsCoarsened, keeps_coarsened, put_together}
use Rattle.flow_network.proofs.net.Net.coarse.Goals as goal

pub invariant_of-result : goal.invariant_of-result
invariant_of-result c =
    let inside = c.self.inside in
    let keeps = c.self.invariant in
    let long = ap length keeps.all in
    let calls = get_or_read inside.arcs.items 0 c.index-calls.result.now (omega (arith, long)) c.index-calls.ensures (free_arc root root 0) in
    let are : ArePutTogether c.args.shift c.args.self.now inside.arcs.items c.index-calls.result.now c.blocks-2.result.now c.edges.result.now
    c.returns-returns.result.now c.in_ok-arcs.arcs.items = record {
      calls_are = calls ∙ ap (λ (net : Network). net.calls) c.self.view_is;
      blocks_are = c.blocks-2.ensures.arcs;
      edges_are = c.edges.ensures.arcs;
      returns_are = c.returns-returns.ensures;
      together = c.in_ok-arcs.ensures;
    } in
    let made : IsCoarsened c.args.shift inside.arcs.items inside.blocks inside.edges inside.leaving inside.entering c.in_ok-arcs.arcs.items
    c.in_ok-leaving.leaving c.in_ok-entering.entering = record {
      keeps = keeps;
      arcs_are = put_together _ _ _ _ _ _ _ _ _ are (sym c.self.view_is);
      leave = record { starts = c.in_ok-leaving.ensures.starts; places = c.in_ok-leaving.ensures.places };
      enter = record { starts = c.in_ok-entering.ensures.starts; places = c.in_ok-entering.ensures.places };
    } in
    keeps_coarsened _ _ _ _ _ _ _ _ _ made
