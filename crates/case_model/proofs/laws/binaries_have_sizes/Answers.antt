use Rattle.case_model.proofs.SizeLemmas.{sizes}
use Rattle.case_model.proofs.laws.binaries_have_sizes.Goals as goal

pub returns : goal.returns
returns c = sizes
