use Rattle.reading_laws.proofs.ProgramLemmas.{rows-of_their_program}
use Rattle.reading_laws.proofs.laws.rows_are_of_their_program.Goals as goal

pub returns : goal.returns
returns c = rows-of_their_program
