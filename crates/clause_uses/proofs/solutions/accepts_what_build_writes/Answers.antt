use Rattle.clause_uses.proofs.WrittenLemmas.{cut_written, flow_written}
use Rattle.clause_uses.proofs.solutions.accepts_what_build_writes.Goals as goal

pub accepts-requires-clause-counted : goal.accepts-requires-clause-counted
accepts-requires-clause-counted c =
    (flow_written c.args.net.now c.args.solved.now c.in-Flow.flow c.in-Flow.prices c.requires c.in-Flow.is).1.conserve.each

pub accepts-requires-clause-priced : goal.accepts-requires-clause-priced
accepts-requires-clause-priced c =
    (flow_written c.args.net.now c.args.solved.now c.in-Flow.flow c.in-Flow.prices c.requires c.in-Flow.is).0

pub returns-in-Flow : goal.returns-in-Flow
returns-in-Flow c =
    let written = flow_written c.args.net.now c.args.solved.now c.in-Flow.flow c.in-Flow.prices c.requires c.in-Flow.is in
    c.accepts.ensures.exact.1 (written.1.conserve, written.2)

pub accepts_cut-requires : goal.accepts_cut-requires
accepts_cut-requires c = (cut_written c.args.net.now c.args.solved.now c.in-Cut.nodes c.requires c.in-Cut.is).0

pub returns-in-Cut : goal.returns-in-Cut
returns-in-Cut c = c.accepts_cut.ensures.exact.1 (cut_written c.args.net.now c.args.solved.now c.in-Cut.nodes c.requires c.in-Cut.is).1
