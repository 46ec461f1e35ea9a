use Rattle.report_model.proofs.ReportLemmas.{each_branch_once}
use Rattle.report_model.proofs.laws.each_branch_once.Goals as goal

pub returns : goal.returns
returns c = each_branch_once
