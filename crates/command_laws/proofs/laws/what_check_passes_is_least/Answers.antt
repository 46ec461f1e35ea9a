use Rattle.command_laws.proofs.CheckedLemmas.{checked_is_least}
use Rattle.command_laws.proofs.laws.what_check_passes_is_least.Goals as goal

pub returns : goal.returns
returns c = checked_is_least
