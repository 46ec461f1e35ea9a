use Rattle.reading_laws.proofs.RangeLemmas.{ranges-by_entry}
use Rattle.reading_laws.proofs.laws.ranges_are_by_entry.Goals as goal

pub returns : goal.returns
returns c = ranges-by_entry
