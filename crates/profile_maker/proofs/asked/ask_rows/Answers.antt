use Rattle.std.proofs.Common.{subst}
use Rattle.std.specs.List.{All}
use Rattle.std.proofs.lemmas.List.{take_all}
use Rattle.sample_model.specs.declared.pair.Pair.{Pair}
use Rattle.span_cover.specs.Stretches.{function_at}
use Rattle.profile_maker.specs.Asked.{AsksEnds}
use Rattle.profile_maker.proofs.AskedLemmas.{rows_more, rows_start}
use Rattle.profile_maker.proofs.asked.ask_rows.Goals as goal

-- what a place past the end of a slice reads as
none : Pair
none = record { from = 0; to = 0; times = 0 }

pub loop-row-init : goal.loop-row-init
loop-row-init c = rows_start (function_at c.args.functions.now.stretches) c.args.asked.now c.args.rows.now

pub loop-row-preserved : goal.loop-row-preserved
unfolding none
loop-row-preserved c =
    rows_more (function_at c.args.functions.now.stretches) _ _ _ _ c.args.rows.now c.loop-row.row-index none c.loop-row-test.true c.loop-row.invariant
    c.ask.ensures.asked c.ask.ensures.kept c.ask-in-loop-row.ensures.asked c.ask-in-loop-row.ensures.kept

pub returns-clause-asked : goal.returns-clause-asked
returns-clause-asked c =
    subst (All (AsksEnds (function_at c.args.functions.now.stretches) c.loop-row.asked)) (take_all c.loop-row.row-index c.args.rows.now c.loop-row-test.false) c.loop-row.invariant.each
