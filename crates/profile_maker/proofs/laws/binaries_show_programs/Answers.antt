use Rattle.profile_maker.proofs.ShownLemmas.{programs_shown}
use Rattle.profile_maker.proofs.laws.binaries_show_programs.Goals as goal

pub returns : goal.returns
returns c = programs_shown
