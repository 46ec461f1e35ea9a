use Rattle.span_cover.specs.Stretches.{function_at}
use Rattle.profile_maker.proofs.AskedLemmas.{keeps_both, rows_still}
use Rattle.profile_maker.proofs.asked.ask_samples.Goals as goal

pub returns-clause-branches : goal.returns-clause-branches
returns-clause-branches c =
    rows_still (function_at c.args.functions.now.stretches) _ _ c.ask_rows-2.ensures.kept c.args.branches.now c.ask_rows.ensures.asked

pub returns-clause-kept : goal.returns-clause-kept
returns-clause-kept c = keeps_both _ _ _ c.ask_rows.ensures.kept c.ask_rows-2.ensures.kept
