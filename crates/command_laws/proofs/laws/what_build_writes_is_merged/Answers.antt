use Rattle.command_laws.proofs.MergedLemmas.{built_is_merged}
use Rattle.command_laws.proofs.laws.what_build_writes_is_merged.Goals as goal

pub returns : goal.returns
returns c = built_is_merged
