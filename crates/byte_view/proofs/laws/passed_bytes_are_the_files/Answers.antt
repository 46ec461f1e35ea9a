use Rattle.byte_view.proofs.Spellings.{passes_bytes_of_file}
use Rattle.byte_view.proofs.laws.passed_bytes_are_the_files.Goals as goal

pub returns : goal.returns
returns c = passes_bytes_of_file
