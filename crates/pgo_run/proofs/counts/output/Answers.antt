use Rattle.std.proofs.Common.{refl}
use Rattle.text_model.specs.Lines.{lines_of}
use Rattle.command_model.specs.Command.{counts as counts_command}
use Rattle.program_edge.proofs.ReachedLemmas.{where-told}
use Rattle.program_edge.proofs.SamplesLemmas.{counted}
use Rattle.program_edge.proofs.WalkLemmas.{all, lacks, start, stops}
use Rattle.pgo_run.proofs.counts.output.Goals as goal

pub returns-in_err-counts-clause-carried : goal.returns-in_err-counts-clause-carried
returns-in_err-counts-clause-carried g c = stops (start (counts_command c.args.perf.now)) c.in_err-counts.ensures.read (λ file ends. ends) refl c.from_residual.ensures.1

pub returns-in_err-text-clause-carried : goal.returns-in_err-text-clause-carried
returns-in_err-text-clause-carried g c =
    let text = counted (start (counts_command c.args.perf.now)) c.in_ok-counts.ensures.read c.branches.ensures.store in
    lacks text.1 c.from_residual-in_err-text.ensures.1

pub returns-clause-carried : goal.returns-clause-carried
returns-clause-carried g c =
    let text = counted (start (counts_command c.args.perf.now)) c.in_ok-counts.ensures.read c.branches.ensures.store in
    all text.1 refl (where-told _ text.2 (λ files tells. c.in_ok-text.ensures (lines_of text.0) tells))
