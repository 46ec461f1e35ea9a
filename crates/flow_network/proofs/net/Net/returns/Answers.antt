use Rattle.std.proofs.Common.{◌+◌, ◌∙◌, ap, drop, sym}
use Rattle.std.proofs.lemmas.List.{take_rest}
use Rattle.flow_model.specs.Network.{Network}
use Rattle.flow_network.proofs.CoarseLemmas.{rest_behind}
use Rattle.flow_network.proofs.net.Net.returns.Goals as goal

pub returns : goal.returns
returns c =
    let blocks = c.self.inside.blocks in
    let edges = c.self.inside.edges in
    take_rest c.deref.result.now (1 + blocks + edges)
    ∙ (ap (drop (1 + blocks + edges)) c.deref.ensures.value
    ∙ (sym (rest_behind c.self.inside.arcs.items blocks edges) ∙ ap (λ (net : Network). net.returns) c.self.view_is))
