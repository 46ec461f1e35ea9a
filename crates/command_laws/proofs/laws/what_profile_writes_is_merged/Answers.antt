use Rattle.command_laws.proofs.MergedLemmas.{profiled_is_merged}
use Rattle.command_laws.proofs.laws.what_profile_writes_is_merged.Goals as goal

pub returns : goal.returns
returns c = profiled_is_merged
