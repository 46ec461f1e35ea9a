use Rattle.output_model.proofs.SummaryLemmas as lemmas
use Rattle.output_model.proofs.laws.summaries_are_determined.Goals as goal

pub returns : goal.returns
returns c = lemmas.summaries_are_determined
