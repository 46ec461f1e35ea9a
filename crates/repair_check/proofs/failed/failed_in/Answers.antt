use Rattle.std.proofs.Common.{refl, ◌∙◌, sym, ap}
use Rattle.cfg_text.specs.Fun.{function_of}
use Rattle.repair_check.proofs.FailLemmas.{counts_are, sides_are, counts_failed, cut_failed}
use Rattle.repair_check.proofs.failed.failed_in.Goals as goal

pub failed_count-requires-clause-counted : goal.failed_count-requires-clause-counted
failed_count-requires-clause-counted c =
    (counts_are (function_of c.args.fun.now) c.args.repair.now c.in-Flow.flow c.in-Flow.prices c.in_ok-net-in-Flow.net c.requires.told
    c.in-Flow.is (c.in_ok-net-in-Flow.ensures ∙ rw (c.as_slice-weights.ensures, c.as_slice.ensures) refl)).0

pub failed_count-requires-clause-priced : goal.failed_count-requires-clause-priced
failed_count-requires-clause-priced c =
    (counts_are (function_of c.args.fun.now) c.args.repair.now c.in-Flow.flow c.in-Flow.prices c.in_ok-net-in-Flow.net c.requires.told
    c.in-Flow.is (c.in_ok-net-in-Flow.ensures ∙ rw (c.as_slice-weights.ensures, c.as_slice.ensures) refl)).1

pub failed_cut-requires-clause-sided : goal.failed_cut-requires-clause-sided
failed_cut-requires-clause-sided c =
    sides_are (function_of c.args.fun.now) c.args.repair.now c.in-Cut.nodes c.in_ok-net-in-Cut.net c.in_ok-edge_weights-in-Cut.edge_weights.items c.requires.told
    c.in-Cut.is (c.in_ok-net-in-Cut.ensures ∙ rw (c.as_slice-weights.ensures, c.deref.ensures.value) refl)

pub returns-in_ok-net-in-Flow : goal.returns-in_ok-net-in-Flow
returns-in_ok-net-in-Flow c =
    c.failed_count.ensures c.args.repair.now.second
    ∙ counts_failed (function_of c.args.fun.now) c.args.repair.now c.in-Flow.flow c.in-Flow.prices c.in_ok-net-in-Flow.net
    c.in-Flow.is (c.in_ok-net-in-Flow.ensures ∙ rw (c.as_slice-weights.ensures, c.as_slice.ensures) refl)

pub returns-in_ok-net-in-Cut : goal.returns-in_ok-net-in-Cut
returns-in_ok-net-in-Cut c =
    c.failed_cut.ensures
    ∙ cut_failed (function_of c.args.fun.now) c.args.repair.now c.in-Cut.nodes c.in_ok-net-in-Cut.net c.in_ok-edge_weights-in-Cut.edge_weights.items
    c.in-Cut.is c.in_ok-edge_weights-in-Cut.ensures.told (c.in_ok-net-in-Cut.ensures ∙ rw (c.as_slice-weights.ensures, c.deref.ensures.value) refl)
