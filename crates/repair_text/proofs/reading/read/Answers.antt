use Rattle.std.proofs.Common.{arith, sym, ap, ◌∙◌, ◌<◌, ◌^◌, length, map, Some}
use Rattle.std.proofs.lemmas.Result.{err_from_is_err_and}
use Rattle.cfg_text.specs.Fun.{function_of}
use Rattle.repair_model.specs.Judging.{first_bad_of_repairs}
use Rattle.repair_model.specs.Text.{repairs_of}
use Rattle.repair_text.specs.Reading.{course_of, done_of}
use Rattle.repair_text.proofs.ReadingLemmas.{all_left, takes_good, takes_bad, end_missing, end_whole}
use Rattle.repair_text.proofs.reading.read.Goals as goal

pub loop-line-init : goal.loop-line-init
loop-line-init c =
    let fits : length c.args.text.now < 2 ^ 63 = omega arith in
    all_left c.args.file (map function_of c.args.funs.now) c.args.text.now c.new-lines.result (course_of c.new-reading.result) (done_of c.new-reading.result)
    c.new-lines.ensures fits c.new-reading.ensures.course c.new-reading.ensures.done

pub returns-in_err-reading : goal.returns-in_err-reading
returns-in_err-reading c =
    let p = err_from_is_err_and c.from_residual.result c.from_residual.ensures.1 in
    rw (p.1, p.2)
    (takes_bad c.args.file c.loop-line.last (first_bad_of_repairs c.args.file (map function_of c.args.funs.now) c.args.text.now)
    (repairs_of (map function_of c.args.funs.now) c.args.text.now) c.loop-line.reading c.in-Some.line c.loop-line.lines c.next.new.self _ _
    c.loop-line.invariant c.in-Some.ensures.steps c.in_err-reading.ensures)

pub loop-line-preserved : goal.loop-line-preserved
loop-line-preserved c =
    takes_good c.args.file c.loop-line.last (first_bad_of_repairs c.args.file (map function_of c.args.funs.now) c.args.text.now)
    (repairs_of (map function_of c.args.funs.now) c.args.text.now) c.loop-line.reading c.in_ok-reading.reading c.in-Some.line c.loop-line.lines c.next.new.self
    c.loop-line.invariant c.in-Some.ensures.steps c.in_ok-reading.ensures

pub returns-then-is_unfinished : goal.returns-then-is_unfinished
returns-then-is_unfinished c =
    end_missing c.args.file c.loop-line.last _ _ (done_of c.loop-line.reading) (course_of c.loop-line.reading) c.loop-line.lines c.loop-line.invariant
    c.in_default.ensures.steps.0 (sym c.is_unfinished.ensures ∙ c.if-is_unfinished.true)
    ∙ ap Some (sym c.on_line.ensures)

pub returns : goal.returns
returns c =
    end_whole c.args.file c.loop-line.last _ _ (done_of c.loop-line.reading) (course_of c.loop-line.reading) c.loop-line.lines c.loop-line.invariant
    c.in_default.ensures.steps.0 (sym c.is_unfinished.ensures ∙ c.if-is_unfinished.false)
