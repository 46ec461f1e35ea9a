use Rattle.std.proofs.Common.{take}
use Rattle.flow_model.specs.Circulation.{EachArc}
use Rattle.flow_network.specs.Flow.{counts_of, price_of}
use Rattle.flow_model.specs.Passing.{PassesBlock}
use Rattle.dual_check.proofs.spot.first_bad_block.Given as goal

abbrev pub invariant-loop-at : goal.invariant-loop-at
invariant-loop-at l =
    EachArc (PassesBlock l.net (counts_of l.flow) (price_of l.prices)) (take l.at l.net.blocks) (take l.at l.flow.blocks)
