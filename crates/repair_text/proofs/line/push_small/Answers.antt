use Rattle.std.proofs.Common.{◌++◌, ap, arith, sym, ◌∙◌}
use Rattle.repair_text.proofs.DigitLemmas.{one_digit}
use Rattle.repair_text.proofs.line.push_small.Goals as goal

pub returns : goal.returns
returns c = c.in_ok-push.ensures.items ∙ ap (λ written. c.args.text.now.items ++ written) (sym (one_digit c.args.number (omega (arith, c.if-number-ge10.false))))
