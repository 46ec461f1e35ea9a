use Rattle.command_laws.proofs.ColdLemmas.{cold_is_of_both}
use Rattle.command_laws.proofs.laws.cold_lines_of_samples_or_of_their_text.Goals as goal

pub returns : goal.returns
returns c = cold_is_of_both
