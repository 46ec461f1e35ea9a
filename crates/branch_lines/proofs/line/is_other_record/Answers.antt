use Rattle.std.proofs.Common.{◌∙◌}
use Rattle.branch_lines.proofs.LineLemmas.{find-contains}
use Rattle.branch_lines.proofs.line.is_other_record.Goals as goal

pub returns : goal.returns
returns c = c.is_some.ensures ∙ find-contains _ _ _ c.find.ensures
