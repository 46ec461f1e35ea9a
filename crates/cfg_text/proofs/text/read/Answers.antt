use Rattle.std.proofs.Common.{arith, ◌<◌, ◌^◌, length, None}
use Rattle.std.proofs.lemmas.Result.{err_from_is_err_and}
use Rattle.block_model.specs.Judging.{first_bad_of_text}
use Rattle.block_model.specs.Text.{functions_of}
use Rattle.cfg_text.proofs.ReadingLemmas.{all_left, same_line, bad_line, stopped_in, one_more, end_outside, numbered_of}
use Rattle.cfg_text.proofs.text.read.Goals as goal

pub loop-line-init : goal.loop-line-init
loop-line-init c =
    let fits : length c.args.text.now < 2 ^ 63 = omega arith in
    rw c.new-funs.ensures.items (0, all_left c.args.file c.args.text.now c.new-lines.result c.new-lines.ensures fits)

pub returns-in_err-name : goal.returns-in_err-name
returns-in_err-name c =
    let p = err_from_is_err_and c.from_residual.result c.from_residual.ensures.1 in
    rw (p.1, p.2)
    (bad_line c.args.file c.loop-line.invariant.0 (first_bad_of_text c.args.file c.args.text.now) (functions_of c.args.text.now) _ None c.in-Some.line c.loop-line.lines c.next.new.self _
    c.loop-line.invariant.1 c.in-Some.ensures.steps c.in_err-name.ensures)

pub loop-line-preserved-in_default-2 : goal.loop-line-preserved-in_default-2
loop-line-preserved-in_default-2 c = (
  c.in-Some.line.number,
  same_line c.args.file c.loop-line.invariant.0 (first_bad_of_text c.args.file c.args.text.now) (functions_of c.args.text.now) _ None None c.in-Some.line c.loop-line.lines c.next.new.self
      c.loop-line.invariant.1 c.in-Some.ensures.steps (rw c.in_default-2.is at c.in_ok-name.ensures),
)

pub read_function-requires : goal.read_function-requires
read_function-requires c =
    numbered_of _ _ _ _ _ _ _
    (same_line c.args.file c.loop-line.invariant.0 (first_bad_of_text c.args.file c.args.text.now) (functions_of c.args.text.now) _ None _ c.in-Some.line c.loop-line.lines c.next.new.self
    c.loop-line.invariant.1 c.in-Some.ensures.steps (rw c.in-Some-2.is at c.in_ok-name.ensures))

pub returns-in_err-fun : goal.returns-in_err-fun
returns-in_err-fun c =
    let p = err_from_is_err_and c.from_residual-in_err-fun.result c.from_residual-in_err-fun.ensures.1 in
    let kept = same_line c.args.file c.loop-line.invariant.0 (first_bad_of_text c.args.file c.args.text.now) (functions_of c.args.text.now) _ None _ c.in-Some.line c.loop-line.lines c.next.new.self
    c.loop-line.invariant.1 c.in-Some.ensures.steps (rw c.in-Some-2.is at c.in_ok-name.ensures) in
    rw (p.1, p.2) (stopped_in _ _ _ _ _ _ _ _ _ _ (rw (← c.new-draft.ensures) at kept) c.in_err-fun.ensures.read)

pub loop-line-preserved : goal.loop-line-preserved
loop-line-preserved c =
    let kept = same_line c.args.file c.loop-line.invariant.0 (first_bad_of_text c.args.file c.args.text.now) (functions_of c.args.text.now) _ None _ c.in-Some.line c.loop-line.lines c.next.new.self
    c.loop-line.invariant.1 c.in-Some.ensures.steps (rw c.in-Some-2.is at c.in_ok-name.ensures) in
    let behind = c.in_ok-fun.ensures.read _ _ _ (rw (← c.new-draft.ensures) at kept) in (
      behind.0,
      one_more c.args.file (first_bad_of_text c.args.file c.args.text.now) (functions_of c.args.text.now) c.loop-line.funs.items c.keep.new.funs.items c.in_ok-fun.fun behind.0 c.read_function.new.lines
          c.in_ok-keep.ensures behind.1,
    )

pub returns : goal.returns
returns c = end_outside c.args.file c.loop-line.invariant.0 _ _ _ _ c.loop-line.invariant.1 c.in_default.ensures.steps.0
