use Rattle.spelling_laws.proofs.BackLemmas.{merge_writes_again}
use Rattle.spelling_laws.proofs.laws.merge_writes_again.Goals as goal

pub returns : goal.returns
returns c = merge_writes_again
