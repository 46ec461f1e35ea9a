use Rattle.std.proofs.Common.{false, None, subst, ◌∙◌}
use Rattle.std.proofs.lemmas.List.{take_all}
use Rattle.block_model.specs.declared.parts.Block.{Block}
use Rattle.span_cover.specs.Stretches.{function_at}
use Rattle.profile_maker.specs.Asked.{AsksBlocks}
use Rattle.profile_maker.proofs.AskedLemmas.{blocks_more, blocks_start}
use Rattle.profile_maker.proofs.asked.ask_fun.Goals as goal

-- what a place past the end of a slice reads as
none : Block
none = record { lo = 0; hi = 0; exit = false; bound = record { lower = 0; upper = None } }

pub loop-block-init : goal.loop-block-init
loop-block-init c = blocks_start (function_at c.args.functions.now.stretches) c.args.asked.now c.as_slice-block-items.result.now

pub loop-block-preserved : goal.loop-block-preserved
unfolding none
loop-block-preserved c =
    blocks_more (function_at c.args.functions.now.stretches) _ _ _ c.as_slice-block-items.result.now c.loop-block.block-index none c.loop-block-test.true c.loop-block.invariant
    c.ask_between.ensures.asked c.ask_between.ensures.kept

pub returns-clause-asked : goal.returns-clause-asked
returns-clause-asked c =
    let all = take_all c.loop-block.block-index c.as_slice-block-items.result.now c.loop-block-test.false ∙ c.as_slice-block-items.ensures in
    subst (AsksBlocks (function_at c.args.functions.now.stretches) c.loop-block.asked) all c.loop-block.invariant.each
