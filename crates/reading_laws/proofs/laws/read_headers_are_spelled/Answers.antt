use Rattle.reading_laws.proofs.HeaderLemmas.{read_headers-spelled}
use Rattle.reading_laws.proofs.laws.read_headers_are_spelled.Goals as goal

pub returns : goal.returns
returns c = read_headers-spelled
