use Rattle.span_cover.specs.Stretches.{function_at}
use Rattle.profile_maker.proofs.AskedLemmas.{AskedRows}
use Rattle.profile_maker.proofs.asked.ask_rows.Given as goal

abbrev pub invariant-loop-row : goal.invariant-loop-row
invariant-loop-row l = AskedRows (function_at l.functions.stretches) l.initial.asked l.rows l.row-index l.asked
