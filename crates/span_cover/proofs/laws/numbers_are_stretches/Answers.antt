use Rattle.span_cover.proofs.StretchLemmas.{are_told}
use Rattle.span_cover.proofs.laws.numbers_are_stretches.Goals as goal

pub returns : goal.returns
returns c = are_told
