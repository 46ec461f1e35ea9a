use Rattle.profile_maker.proofs.NameLemmas.{keys_have_names}
use Rattle.profile_maker.proofs.map_laws.keys_have_names.Goals as goal

pub returns : goal.returns
returns c = keys_have_names
