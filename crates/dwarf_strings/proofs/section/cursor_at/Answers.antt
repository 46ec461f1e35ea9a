use Rattle.std.proofs.Common.{◌≤◌, length, arith}
use Rattle.dwarf_strings.proofs.SectionLemmas.{run_at-fits}
use Rattle.dwarf_strings.proofs.section.cursor_at.Goals as goal

pub returns-in-Err : goal.returns-in-Err
returns-in-Err c =
    let fits : c.args.at ≤ length c.new-cur.result.left = omega arith in
    absurd (run_at-fits _ _ _ fits c.in-Err.ensures.exact)
