use Rattle.reading_laws.proofs.HeaderLemmas.{read_lengths-spelled}
use Rattle.reading_laws.proofs.laws.read_lengths_are_spelled.Goals as goal

pub returns : goal.returns
returns c = read_lengths-spelled
