use Rattle.report_model.proofs.RangeLemmas.{ran_is_one_function}
use Rattle.report_model.proofs.class_laws.ran_is_one_function.Goals as goal

pub returns : goal.returns
returns c = ran_is_one_function
