use Rattle.report_model.proofs.AddLemmas.{ranges_add_up}
use Rattle.report_model.proofs.class_laws.ranges_add_up.Goals as goal

pub returns : goal.returns
returns c = ranges_add_up
