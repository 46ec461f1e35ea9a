use Rattle.span_cover.specs.Stretches.{function_at}
use Rattle.profile_maker.proofs.AskedLemmas.{AskedBlocks}
use Rattle.profile_maker.proofs.asked.ask_fun.Given as goal

abbrev pub invariant-loop-block : goal.invariant-loop-block
invariant-loop-block l = AskedBlocks (function_at l.functions.stretches) l.initial.asked l.block-items l.block-index l.asked
