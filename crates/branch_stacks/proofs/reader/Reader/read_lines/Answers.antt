use Rattle.std.proofs.Common.{ℕ, ◌∙◌, refl, arith, length-drop}
use Rattle.std.proofs.lemmas.List.{take_all}
use Rattle.std.proofs.lemmas.Result.{err_from_is_err_and}
use Rattle.branch_stacks.proofs.ReaderLemmas.{FedSoFar-none, FedSoFar-more, FedSoFar-stop, FedSoFar-all}
use Rattle.branch_stacks.proofs.reader.Reader.read_lines.Goals as goal

pub loop-end-init : goal.loop-end-init
loop-end-init c = record { fed = FedSoFar-none _ _ _ c.requires; ranged = refl }

pub returns-in_err-end_line-clause-judged : goal.returns-in_err-end_line-clause-judged
returns-in_err-end_line-clause-judged c =
    let p = err_from_is_err_and c.from_residual.result c.from_residual.ensures.1 in
    rw (p.1, p.2) (FedSoFar-stop _ _ _ _ _ _ _ _ _ _ _ _ c.loop-end.invariant.fed c.in-Some.ensures refl c.in_err-end_line.ensures.judged c.in_err-end_line.ensures.err)

pub loop-end-preserved : goal.loop-end-preserved
loop-end-preserved c = record {
  fed = FedSoFar-more _ _ _ _ _ _ _ _ _ _ _ c.loop-end.invariant.fed c.in-Some.ensures refl (take_all _ _ (omega (arith, length-drop {A = ℕ})))
      c.in_ok-end_line.ensures.judged.0 c.in_ok-end_line.ensures.judged.1;
  ranged = c.end_line.ensures.ranged ∙ c.loop-end.invariant.ranged;
}

pub returns-clause-judged : goal.returns-clause-judged
returns-clause-judged c = FedSoFar-all _ _ _ _ _ _ _ c.loop-end.invariant.fed c.in_default.ensures c.hold.ensures
