use Rattle.profile_maker.proofs.SegmentLemmas.{segments_fit}
use Rattle.profile_maker.proofs.map_laws.segments_fit.Goals as goal

pub returns : goal.returns
returns c = segments_fit
