use Rattle.span_cover.specs.Stretches.{function_at}
use Rattle.profile_maker.proofs.AskedLemmas.{AskedFuns}
use Rattle.profile_maker.proofs.asked.ask_blocks.Given as goal

abbrev pub invariant-loop-fun : goal.invariant-loop-fun
invariant-loop-fun l = AskedFuns (function_at l.functions.stretches) l.initial.asked l.funs l.fun-index l.asked
