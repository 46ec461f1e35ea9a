use Rattle.report_model.proofs.AddLemmas.{branches_add_up}
use Rattle.report_model.proofs.class_laws.branches_add_up.Goals as goal

pub returns : goal.returns
returns c = branches_add_up
