use Rattle.std.proofs.Common.{◌-◌, Err, sym, ap, ◌∙◌, arith}
use Rattle.std.proofs.lemmas.Grind.{common_steps}
use Rattle.std.proofs.lemmas.Result.{err_from_is_err_and}
use Rattle.line_program.proofs.OpcodeLemmas.{ulebs_at-none, ulebs_at-more, ulebs_at-stop}
use Rattle.line_program.proofs.opcode.pass_ulebs.Goals as goal

pub loop-preserved : goal.loop-preserved
loop-preserved c = record {
  same = ulebs_at-more (c.args.count - c.loop.counter) _ _ _ _ (omega arith) c.in_ok-_operand.ensures.exact ∙ c.loop.invariant.same;
  shorter = grind (arith, common_steps);
}

pub returns-in_err-_operand-clause-exact : goal.returns-in_err-_operand-clause-exact
returns-in_err-_operand-clause-exact c =
    let p = err_from_is_err_and c.from_residual.result c.from_residual.ensures.1 in
    rw p.1 (sym c.loop.invariant.same ∙ ulebs_at-stop (c.args.count - c.loop.counter) _ _ (omega arith) c.in_err-_operand.ensures.exact ∙ ap Err (sym p.2))

pub returns-clause-exact : goal.returns-clause-exact
returns-clause-exact c = sym c.loop.invariant.same ∙ ulebs_at-none _ _ (omega arith)
