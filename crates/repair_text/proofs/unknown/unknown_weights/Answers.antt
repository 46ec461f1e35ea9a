use Rattle.std.proofs.Common.{◌+◌, ◌<◌, ◌≤◌, List, length, sym, subst}
use Rattle.block_model.specs.declared.parts.Edge.{Edge}
use Rattle.repair_text.proofs.UnknownLemmas.{UnknownSoFar, UnknownSoFar-end, UnknownSoFar-more, unknown_small}
use Rattle.repair_text.proofs.unknown.unknown_weights.Goals as goal

pub loop-edge-preserved : goal.loop-edge-preserved
loop-edge-preserved c =
    subst (UnknownSoFar c.args.fun.now.edges (c.loop-edge._edge-index + 1)) (sym c.in_ok-push.ensures.items)
    (UnknownSoFar-more c.args.fun.now.edges c.loop-edge._edge-index c.loop-edge.made.items c.loop-edge.invariant
    (subst (λ (es : List Edge). c.loop-edge._edge-index < length es) c.as_slice-edge-items.ensures c.loop-edge-test.true))

pub returns-clause-small : goal.returns-clause-small
returns-clause-small c =
    unknown_small c.args.fun.now.edges c.loop-edge.made.items
    (UnknownSoFar-end c.args.fun.now.edges c.loop-edge._edge-index c.loop-edge.made.items c.loop-edge.invariant
    (subst (λ (es : List Edge). length es ≤ c.loop-edge._edge-index) c.as_slice-edge-items.ensures c.loop-edge-test.false))
