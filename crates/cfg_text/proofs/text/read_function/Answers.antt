use Rattle.std.proofs.Common.{arith, sym, ap, ◌∙◌, ◌≤◌, length, Some}
use Rattle.std.proofs.lemmas.Result.{err_from_is_err_and}
use Rattle.cfg_text.proofs.ReadingLemmas.{stopped_at, ended_at, keeps_on, end_inside, next_numbered}
use Rattle.cfg_text.proofs.text.read_function.Goals as goal

pub returns-in_err-take_in-clause-read : goal.returns-in_err-take_in-clause-read
returns-in_err-take_in-clause-read c =
    let p = err_from_is_err_and c.from_residual.result c.from_residual.ensures.1 in
    rw (p.1, p.2)
    (stopped_at c.args.file c.args.at c.loop-line.last c.args.draft c.loop-line.draft c.take_in.new.draft c.in-Some.line c.args.lines.now c.loop-line.lines c.next.new.self _
    c.loop-line.invariant.kept c.in-Some.ensures.steps c.in_err-take_in.ensures)

pub returns-then-branch-clause-read : goal.returns-then-branch-clause-read
returns-then-branch-clause-read c =
    ended_at c.args.file c.args.at c.loop-line.last c.args.draft c.loop-line.draft c.take_in.new.draft c.in-Some.line c.args.lines.now c.loop-line.lines c.next.new.self c.close.result
    c.loop-line.invariant.kept c.in-Some.ensures.steps (rw c.if-branch.true at c.in_ok-take_in.ensures) c.close.ensures

pub loop-line-preserved : goal.loop-line-preserved
loop-line-preserved c =
    let shorter : length c.next.new.self ≤ length c.loop-line.lines = omega (arith, ap length c.in-Some.ensures.steps) in
    record {
      kept = keeps_on c.args.file c.args.at c.loop-line.last c.args.draft c.loop-line.draft c.take_in.new.draft c.in-Some.line c.args.lines.now c.loop-line.lines c.next.new.self
          c.loop-line.invariant.kept c.in-Some.ensures.steps (rw c.if-branch.false at c.in_ok-take_in.ensures);
      numbered = next_numbered c.loop-line.last c.in-Some.line c.loop-line.lines c.next.new.self c.loop-line.invariant.numbered c.in-Some.ensures.steps;
      shorter = omega (arith, shorter, c.loop-line.invariant.shorter);
    }

pub returns-clause-read : goal.returns-clause-read
returns-clause-read c = λ bad all done kept.
    end_inside c.args.file c.loop-line.last bad all done c.loop-line.draft c.loop-line.lines (c.loop-line.invariant.kept bad all done kept) c.in_default.ensures.steps.0
    ∙ ap Some (sym c.on_line.ensures)
