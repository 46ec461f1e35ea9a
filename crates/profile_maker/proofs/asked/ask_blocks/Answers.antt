use Rattle.std.proofs.Common.{subst}
use Rattle.std.specs.List.{All}
use Rattle.std.proofs.lemmas.List.{take_all}
use Rattle.cfg_text.specs.declared.fun.Fun.{Fun}
use Rattle.span_cover.specs.Stretches.{function_at}
use Rattle.profile_maker.specs.Asked.{AsksBlocks}
use Rattle.profile_maker.proofs.AskedLemmas.{funs_more, funs_start}
use Rattle.profile_maker.proofs.asked.ask_blocks.Goals as goal

pub loop-fun-init : goal.loop-fun-init
loop-fun-init c = funs_start (function_at c.args.functions.now.stretches) c.args.asked.now c.args.funs.now

pub loop-fun-preserved : goal.loop-fun-preserved
loop-fun-preserved c =
    funs_more (function_at c.args.functions.now.stretches) _ _ _ c.args.funs.now c.loop-fun.fun-index c.fun-item.result c.loop-fun-test.true c.fun-item.is c.loop-fun.invariant
    c.ask_fun.ensures.asked c.ask_fun.ensures.kept

pub returns-clause-asked : goal.returns-clause-asked
returns-clause-asked c =
    subst (All (λ (fun : Fun). AsksBlocks (function_at c.args.functions.now.stretches) c.loop-fun.asked fun.blocks)) (take_all c.loop-fun.fun-index c.args.funs.now c.loop-fun-test.false)
    c.loop-fun.invariant.each
