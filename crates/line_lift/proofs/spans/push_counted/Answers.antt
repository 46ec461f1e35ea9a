use Rattle.std.proofs.Common.{◌≡◌, ◌++◌, ◌∙◌, map, rules, subst, sym, take, zip}
use Rattle.std.proofs.lemmas.List.{length_push}
use Rattle.std.proofs.lemmas.Slice.Zip.{zip_end, zip_turn}
use Rattle.std.specs.Iterator.Adapters.{zip_first, zip_second}
use Rattle.std.specs.Slice.Iter.{iter_rest}
use Rattle.line_lift.specs.Spans.{span_of}
use Rattle.line_lift.proofs.SpansLemmas.{blocks_all, blocks_more}
use Rattle.line_lift.proofs.spans.push_counted.Goals as goal

pub loop-block-preserved : goal.loop-block-preserved
loop-block-preserved c =
    let first : iter_rest (zip_first c.into_iter-block-iterator.result) ≡ c.args.fun.now.blocks = search rules in
    let second : iter_rest (zip_second c.into_iter-block-iterator.result) ≡ c.args.flow.now.blocks = search rules in
    let turn = zip_turn c.args.fun.now.blocks c.args.flow.now.blocks c.loop-block.yielded c.into_iter-block-iterator.result c.loop-block.block-iterator c.next.new.self c.next.result
    first second c.loop-block.yielded_by (c.in-Some.block, c.in-Some.count) c.in-Some.is c.next.ensures.steps in
    subst (λ n. c.push.new.self.items ≡ c.args.spans.now.items ++ map span_of (take n (zip c.args.fun.now.blocks c.args.flow.now.blocks)))
    (sym (length_push c.loop-block.yielded (c.in-Some.block, c.in-Some.count)))
    (c.in_ok-push.ensures.items ∙ blocks_more _ _ _ _ c.in-Some.block.now c.in-Some.count.now _ turn.0 turn.1 (turn.2 c.in-Some.block.now) (turn.3 c.in-Some.count.now) c.loop-block.invariant)

pub returns : goal.returns
returns c =
    let first : iter_rest (zip_first c.into_iter-block-iterator.result) ≡ c.args.fun.now.blocks = search rules in
    let second : iter_rest (zip_second c.into_iter-block-iterator.result) ≡ c.args.flow.now.blocks = search rules in
    blocks_all _ _ _ _ _
    (zip_end c.args.fun.now.blocks c.args.flow.now.blocks c.loop-block.yielded c.into_iter-block-iterator.result c.loop-block.block-iterator c.next.new.self c.next.result
    first second c.loop-block.yielded_by c.in-None.is c.next.ensures.steps) c.loop-block.invariant
