use Rattle.span_cover.specs.Stretches.{function_at}
use Rattle.profile_maker.proofs.AskedLemmas.{rows_still}
use Rattle.profile_maker.proofs.profiled.asked_of.Goals as goal

pub returns-clause-branches : goal.returns-clause-branches
returns-clause-branches c =
    rows_still (function_at c.args.binary.now.functions.stretches) _ _ c.ask_blocks.ensures.kept c.args.branches.now c.ask_samples.ensures.branches

pub returns-clause-ranges : goal.returns-clause-ranges
returns-clause-ranges c =
    rows_still (function_at c.args.binary.now.functions.stretches) _ _ c.ask_blocks.ensures.kept c.args.ranges.now c.ask_samples.ensures.ranges
