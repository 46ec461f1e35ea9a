use Rattle.reading_laws.proofs.ProgramLemmas.{programs-refused_in_order}
use Rattle.reading_laws.proofs.laws.programs_are_refused_in_order.Goals as goal

pub returns : goal.returns
returns c = programs-refused_in_order
