use Rattle.std.proofs.Common.{sym}
use Rattle.std.specs.Prelude.{codes}
use Rattle.text_model.specs.Numbers.{decimal_text}
use Rattle.profile_report.proofs.JoinLemmas.{joined5}
use Rattle.profile_report.proofs.report.push_units.Goals as goal

pub returns-clause-appended : goal.returns-clause-appended
returns-clause-appended c = λ classes sampled branches ranges tells.
    rw (
      c.in_ok-push.ensures.items,
      c.in_ok-push_number-2.ensures.appended,
      c.in_ok-extend_from_slice-2.ensures.items,
      c.in_ok-push_number.ensures.appended,
      c.in_ok-extend_from_slice.ensures.items,
      c.from.ensures,
      c.from-2.ensures,
      sym tells.read,
      sym tells.passed,
    ) (joined5 c.args.out.now.items (codes "# units read ") (decimal_text c.args.units.read) (codes " passed ") (decimal_text c.args.units.passed) (codes "\n"))
