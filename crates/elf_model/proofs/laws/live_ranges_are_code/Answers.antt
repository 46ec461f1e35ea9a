use Rattle.elf_model.proofs.LawLemmas.{live_ranges_are_code}
use Rattle.elf_model.proofs.laws.live_ranges_are_code.Goals as goal

pub returns : goal.returns
returns c = live_ranges_are_code
