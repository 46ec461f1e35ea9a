use Rattle.std.proofs.Common.{◌≡◌, map, rules, subst, sym, take}
use Rattle.std.proofs.lemmas.List.{length_push}
use Rattle.std.proofs.lemmas.Slice.Zip.{zip_end, zip_turn}
use Rattle.std.specs.Iterator.Adapters.{zip_first, zip_second}
use Rattle.std.specs.Slice.Iter.{iter_rest}
use Rattle.line_lift.specs.Lift.{repaired}
use Rattle.line_lift.specs.Spans.{counted, span_of}
use Rattle.line_lift.proofs.SpansLemmas.{functions_all, functions_more}
use Rattle.line_lift.proofs.spans.spans_of.Goals as goal

pub loop-fun-preserved : goal.loop-fun-preserved
loop-fun-preserved c =
    let first : iter_rest (zip_first c.into_iter-fun-iterator.result) ≡ c.args.funs.now = search rules in
    let second : iter_rest (zip_second c.into_iter-fun-iterator.result) ≡ c.args.repairs.now = search rules in
    let turn = zip_turn c.args.funs.now c.args.repairs.now c.loop-fun.yielded c.into_iter-fun-iterator.result c.loop-fun.fun-iterator c.next.new.self c.next.result
    first second c.loop-fun.yielded_by (c.in-Some.fun, c.in-Some.repair) c.in-Some.is c.next.ensures.steps in
    subst (λ n. c.push_spans.new.spans.items ≡ map span_of (counted (take n (repaired c.args.funs.now c.args.repairs.now))))
    (sym (length_push c.loop-fun.yielded (c.in-Some.fun, c.in-Some.repair)))
    (functions_more _ _ _ c.in-Some.fun.now c.in-Some.repair.now _ _ turn.0 turn.1 (turn.2 c.in-Some.fun.now) (turn.3 c.in-Some.repair.now) c.loop-fun.invariant c.in_ok-push_spans.ensures)

pub returns : goal.returns
returns c =
    let first : iter_rest (zip_first c.into_iter-fun-iterator.result) ≡ c.args.funs.now = search rules in
    let second : iter_rest (zip_second c.into_iter-fun-iterator.result) ≡ c.args.repairs.now = search rules in
    functions_all _ _ _ _
    (zip_end c.args.funs.now c.args.repairs.now c.loop-fun.yielded c.into_iter-fun-iterator.result c.loop-fun.fun-iterator c.next.new.self c.next.result
    first second c.loop-fun.yielded_by c.in-None.is c.next.ensures.steps) c.loop-fun.invariant
