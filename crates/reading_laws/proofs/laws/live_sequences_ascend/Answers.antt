use Rattle.reading_laws.proofs.SequenceLemmas.{live-ascend}
use Rattle.reading_laws.proofs.laws.live_sequences_ascend.Goals as goal

pub returns : goal.returns
returns c = live-ascend
