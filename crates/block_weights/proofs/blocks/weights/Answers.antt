use Rattle.std.proofs.Common.{List, false, None, subst, ◌∙◌}
use Rattle.std.specs.List.{AllZip}
use Rattle.std.proofs.lemmas.List.{take_all, take_more}
use Rattle.list_lemmas.proofs.Each.{all_zip_push}
use Rattle.block_model.specs.declared.parts.Block.{Block}
use Rattle.key_types.specs.Segments.{key_told}
use Rattle.weight_model.specs.Blocks.{IsWeightOf}
use Rattle.block_weights.specs.Counts.{count_in}
use Rattle.block_weights.proofs.SmallLemmas.{weights_are_small}
use Rattle.block_weights.proofs.blocks.weights.Goals as goal

-- what a place past the end of a slice reads as
none : Block
none = record { lo = 0; hi = 0; exit = false; bound = record { lower = 0; upper = None } }

pub loop-block-preserved : goal.loop-block-preserved
unfolding none
loop-block-preserved c = (
  rw (c.in_ok-push.ensures.items, take_more c.as_slice-block-items.result.now c.loop-block.block-index none c.loop-block-test.true)
      (all_zip_push (IsWeightOf (key_told c.args.counted.now.segments) (count_in c.args.counted.now.counts)) _ _ _ _ c.loop-block.invariant.0 c.weight_of-weight.ensures.weight),
  c.weight_of-weight.ensures.near,
)

pub returns-clause-told : goal.returns-clause-told
returns-clause-told c =
    let all = take_all c.loop-block.block-index c.as_slice-block-items.result.now c.loop-block-test.false ∙ c.as_slice-block-items.ensures in
    subst (λ (blocks : List Block). AllZip (IsWeightOf (key_told c.args.counted.now.segments) (count_in c.args.counted.now.counts)) blocks c.loop-block.made.items) all c.loop-block.invariant.0

pub returns-clause-small : goal.returns-clause-small
returns-clause-small c =
    let all = take_all c.loop-block.block-index c.as_slice-block-items.result.now c.loop-block-test.false ∙ c.as_slice-block-items.ensures in
    weights_are_small (key_told c.args.counted.now.segments) c.args.counted.now.counts c.args.fun.now.blocks c.loop-block.made.items
    (subst (λ (blocks : List Block). AllZip (IsWeightOf (key_told c.args.counted.now.segments) (count_in c.args.counted.now.counts)) blocks c.loop-block.made.items) all c.loop-block.invariant.0)
