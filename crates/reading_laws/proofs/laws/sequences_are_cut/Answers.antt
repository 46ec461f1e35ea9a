use Rattle.reading_laws.proofs.SequenceLemmas.{sequences-cut}
use Rattle.reading_laws.proofs.laws.sequences_are_cut.Goals as goal

pub returns : goal.returns
returns c = sequences-cut
