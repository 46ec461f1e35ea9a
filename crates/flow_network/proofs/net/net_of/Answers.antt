use Rattle.std.proofs.Common.{ℕ, ◌+◌, ◌*◌, ◌<◌, ◌∙◌, List, length, ap, sym, subst}
use Rattle.std.specs.List.{All}
use Rattle.block_model.specs.declared.parts.Block.{Block}
use Rattle.block_model.specs.declared.parts.Edge.{Edge}
use Rattle.flow_model.specs.Network.{network_of}
use Rattle.flow_network.specs.Net.{tails_of, heads_of}
use Rattle.flow_network.specs.Table.{AreRows}
use Rattle.flow_network.proofs.NetLemmas.{made_from, tails_below, heads_below, few_tails, few_heads, net_keeps, view_is}
use Rattle.flow_network.proofs.net.net_of.Goals as goal

pub of-requires-clause-below : goal.of-requires-clause-below
of-requires-clause-below c =
    let made = made_from _ _ _ _ _ _ _ c.as_slice-blocks.ensures c.as_slice-edges.ensures c.requires.sound c.requires.weighed c.requires.edges_weighed c.in_ok-arcs.ensures in
    let are = c.deref-2.ensures.value ∙ (c.in_ok-tails.ensures ∙ ap tails_of c.deref.ensures.value) in
    subst (λ (list : List ℕ). All (λ key. key < 2 * length c.as_slice-blocks.result.now + 1) list) (sym are) (tails_below _ _ _ _ _ made)

pub of-requires-clause-few : goal.of-requires-clause-few
of-requires-clause-few c =
    let made = made_from _ _ _ _ _ _ _ c.as_slice-blocks.ensures c.as_slice-edges.ensures c.requires.sound c.requires.weighed c.requires.edges_weighed c.in_ok-arcs.ensures in
    let are = c.deref-2.ensures.value ∙ (c.in_ok-tails.ensures ∙ ap tails_of c.deref.ensures.value) in
    rw are (few_tails _ _ _ _ _ made)

pub of-requires-2-clause-below : goal.of-requires-2-clause-below
of-requires-2-clause-below c =
    let made = made_from _ _ _ _ _ _ _ c.as_slice-blocks.ensures c.as_slice-edges.ensures c.requires.sound c.requires.weighed c.requires.edges_weighed c.in_ok-arcs.ensures in
    let are = c.deref-4.ensures.value ∙ (c.in_ok-heads.ensures ∙ ap heads_of c.deref-3.ensures.value) in
    subst (λ (list : List ℕ). All (λ key. key < 2 * length c.as_slice-blocks.result.now + 1) list) (sym are) (heads_below _ _ _ _ _ made)

pub of-requires-2-clause-few : goal.of-requires-2-clause-few
of-requires-2-clause-few c =
    let made = made_from _ _ _ _ _ _ _ c.as_slice-blocks.ensures c.as_slice-edges.ensures c.requires.sound c.requires.weighed c.requires.edges_weighed c.in_ok-arcs.ensures in
    let are = c.deref-4.ensures.value ∙ (c.in_ok-heads.ensures ∙ ap heads_of c.deref-3.ensures.value) in
    rw are (few_heads _ _ _ _ _ made)

pub invariant_of-result : goal.invariant_of-result
invariant_of-result c =
    let made = made_from _ _ _ _ _ _ _ c.as_slice-blocks.ensures c.as_slice-edges.ensures c.requires.sound c.requires.weighed c.requires.edges_weighed c.in_ok-arcs.ensures in
    let tails = c.deref-2.ensures.value ∙ (c.in_ok-tails.ensures ∙ ap tails_of c.deref.ensures.value) in
    let heads = c.deref-4.ensures.value ∙ (c.in_ok-heads.ensures ∙ ap heads_of c.deref-3.ensures.value) in
    let sides = 2 * length c.as_slice-blocks.result.now + 1 in
    net_keeps _ _ _ _ _ _ _ made
    (subst (λ (list : List ℕ). AreRows list sides c.in_ok-leaving.leaving) tails c.in_ok-leaving.ensures)
    (subst (λ (list : List ℕ). AreRows list sides c.in_ok-entering.entering) heads c.in_ok-entering.ensures)

pub returns : goal.returns
returns c =
    let made = made_from _ _ _ _ _ _ _ c.as_slice-blocks.ensures c.as_slice-edges.ensures c.requires.sound c.requires.weighed c.requires.edges_weighed c.in_ok-arcs.ensures in
    view_is _ _ _ _ _ made
    ∙ (ap (λ (list : List Block). network_of list c.as_slice-edges.result.now c.args.weights.now c.args.edge_weights.now) c.as_slice-blocks.ensures
    ∙ ap (λ (list : List Edge). network_of c.args.fun.now.blocks list c.args.weights.now c.args.edge_weights.now) c.as_slice-edges.ensures)
