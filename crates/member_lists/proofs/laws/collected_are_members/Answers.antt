use Rattle.member_lists.proofs.FrameLemmas.{collected-are_members}
use Rattle.member_lists.proofs.laws.collected_are_members.Goals as goal

pub returns : goal.returns
returns c = collected-are_members
