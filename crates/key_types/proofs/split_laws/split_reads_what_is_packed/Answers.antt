use Rattle.key_types.proofs.SplitLemmas.{packed_is_read}
use Rattle.key_types.proofs.split_laws.split_reads_what_is_packed.Goals as goal

pub returns : goal.returns
returns c = packed_is_read
