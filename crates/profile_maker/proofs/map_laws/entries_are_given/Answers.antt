use Rattle.profile_maker.proofs.NameLemmas.{entries_are_given}
use Rattle.profile_maker.proofs.map_laws.entries_are_given.Goals as goal

pub returns : goal.returns
returns c = entries_are_given
