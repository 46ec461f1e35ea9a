use Rattle.path_search.specs.Search.{is_reached}
use Rattle.flow_balance.specs.Answer.{IsEveryOther}
use Rattle.flow_balance.proofs.answer.members.Given as goal

abbrev pub invariant-loop-block : goal.invariant-loop-block
invariant-loop-block l = IsEveryOther (is_reached l.marks) l.first l.block l.list.items
