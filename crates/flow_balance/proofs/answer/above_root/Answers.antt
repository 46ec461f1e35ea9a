use Rattle.std.proofs.Common.{arith, ◌+◌, ◌*◌}
use Rattle.std.specs.Prelude.{pos, ◌-ℤ◌}
use Rattle.std.proofs.lemmas.Int.{ints}
use Rattle.path_search.specs.Ground.{price_at}
use Rattle.flow_balance.proofs.AnswerLemmas.{every_other_more}
use Rattle.flow_balance.proofs.answer.above_root.Goals as goal

pub loop-block-preserved : goal.loop-block-preserved
loop-block-preserved c =
    let inside = c.requires.inside in
    let test = c.loop-block-test.true in
    let some = c.requires.some in
    let here = c.requires.small (c.args.first + 2 * c.loop-block.block) (pos 0) (omega (arith, inside, test)) in
    let root = c.requires.small 0 (pos 0) (omega (arith, inside, test, some)) in
    rw c.in_ok-push.ensures.items
    (every_other_more (λ side. price_at c.args.prices.now side -ℤ price_at c.args.prices.now 0) c.args.first c.loop-block.block _ _
    (omega (arith, ints, here.least, here.most, root.least, root.most)) c.loop-block.invariant)
