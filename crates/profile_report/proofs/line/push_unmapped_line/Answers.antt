use Rattle.std.specs.Prelude.{codes}
use Rattle.text_model.specs.Numbers.{decimal_text, hex_text}
use Rattle.report_model.specs.Report.{word_of}
use Rattle.profile_report.proofs.JoinLemmas.{joined9}
use Rattle.profile_report.proofs.line.push_unmapped_line.Goals as goal

pub returns-clause-appended : goal.returns-clause-appended
returns-clause-appended c =
    let branch = c.args.branch.now in
    rw (
      c.in_ok-push-4.ensures.items,
      c.in_ok-push_number.ensures.appended,
      c.in_ok-push-3.ensures.items,
      c.in_ok-push_hex-2.ensures.appended,
      c.in_ok-push-2.ensures.items,
      c.in_ok-push_hex.ensures.appended,
      c.in_ok-push.ensures.items,
      c.in_ok-extend_from_slice-2.ensures.items,
      c.word_of.ensures,
      c.in_ok-extend_from_slice.ensures.items,
      c.from.ensures,
    ) (joined9 c.args.out.now.items (codes "# unmapped ") (word_of c.args.reason) (codes " ") (hex_text branch.from) (codes " ") (hex_text branch.to) (codes " ") (decimal_text branch.times) (codes "\n"))
