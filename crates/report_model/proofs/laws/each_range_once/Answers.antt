use Rattle.report_model.proofs.ReportLemmas.{each_range_once}
use Rattle.report_model.proofs.laws.each_range_once.Goals as goal

pub returns : goal.returns
returns c = each_range_once
