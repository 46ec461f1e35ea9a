use Rattle.std.proofs.Common.{◌∙◌, ◌+◌, sym, ap, subst, Some, length}
use Rattle.dual_check.specs.First.{IsFirstBad}
use Rattle.flow_network.specs.Flow.{counts_of, price_of}
use Rattle.repair_check.proofs.FailLemmas.{block_fails, edge_fails, none_fails, cost_fails}
use Rattle.repair_check.proofs.failed.failed_count.Goals as goal

pub returns-in-Some-Block : goal.returns-in-Some-Block
returns-in-Some-Block c = λ second.
    let first = subst (IsFirstBad c.args.net.now (counts_of c.args.flow.now) (price_of c.args.prices.now))
    (c.in-Some-Block.is ∙ ap Some c.in-Some-Block.field-0-is) c.first_bad.ensures.first in
    rw c.from.ensures
    (block_fails c.args.net.now (counts_of c.args.flow.now) c.args.prices.now.ins c.args.prices.now.outs c.args.line c.args.cost_told second c.in-Some-Block.block
    c.requires.counted first)

pub returns-in-Some-Edge : goal.returns-in-Some-Edge
returns-in-Some-Edge c = λ second.
    let first = subst (IsFirstBad c.args.net.now (counts_of c.args.flow.now) (price_of c.args.prices.now))
    (c.in-Some-Edge.is ∙ ap Some c.in-Some-Edge.field-0-is) c.first_bad.ensures.first in
    rw (c.from-in-Some-Edge.ensures, c.block_count-blocks.ensures.value)
    (edge_fails c.args.net.now (counts_of c.args.flow.now) c.args.prices.now.ins c.args.prices.now.outs c.args.line c.args.cost_told second c.in-Some-Edge.edge
    c.requires.counted first.0 first.1)

pub returns-in-None : goal.returns-in-None
returns-in-None c = λ second.
    let all = subst (IsFirstBad c.args.net.now (counts_of c.args.flow.now) (price_of c.args.prices.now)) c.in-None.is c.first_bad.ensures.first in
    none_fails c.args.net.now (counts_of c.args.flow.now) c.args.prices.now.ins c.args.prices.now.outs c.args.line c.args.cost_told second all
    (sym c.cost.ensures ∙ c.if-cost-cost_told.true)

pub returns-in-None-2 : goal.returns-in-None-2
returns-in-None-2 c = λ second.
    let all = subst (IsFirstBad c.args.net.now (counts_of c.args.flow.now) (price_of c.args.prices.now)) c.in-None-2.is c.first_bad.ensures.first in
    rw (c.block_count-blocks.ensures.value, c.edge_count-edges.ensures.value)
    (cost_fails c.args.net.now (counts_of c.args.flow.now) c.args.prices.now.ins c.args.prices.now.outs c.args.line c.args.cost_told second all
    (λ same. c.if-cost-cost_told.false (c.cost.ensures ∙ same)))
