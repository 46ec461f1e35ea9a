use Rattle.profile_laws.proofs.TotalLemmas.{totals_add_up}
use Rattle.profile_laws.proofs.laws.totals_add_up.Goals as goal

pub returns : goal.returns
returns c = totals_add_up
