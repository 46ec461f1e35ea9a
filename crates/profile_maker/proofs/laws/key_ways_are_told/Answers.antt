use Rattle.profile_maker.proofs.KeyWayLemmas.{key_ways_are_told}
use Rattle.profile_maker.proofs.laws.key_ways_are_told.Goals as goal

pub returns : goal.returns
returns c = key_ways_are_told
