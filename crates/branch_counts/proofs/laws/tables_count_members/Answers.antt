use Rattle.branch_counts.proofs.TallyLemmas.{tables_count_members}
use Rattle.branch_counts.proofs.laws.tables_count_members.Goals as goal

pub returns : goal.returns
returns c = tables_count_members
