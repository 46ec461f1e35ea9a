use Rattle.std.proofs.Common.{◌<◌, ◌^◌, All, subst}
use Rattle.profile_tree.proofs.StatedLemmas.{calls_once_fit, heads_once_fit}
use Rattle.profile_lists.specs.declared.pairs.Call.{Call}
use Rattle.profile_tree.specs.declared.head.Head.{Head}
use Rattle.profile_tree.proofs.numbers.Numbers.each_once.Goals as goal

pub new-requires-clause-call_sums : goal.new-requires-clause-call_sums
new-requires-clause-call_sums c =
    calls_once_fit c.args.calls.items c.requires.calls_once (subst (All (λ (call : Call). call.times < 2 ^ 64)) c.deref.ensures.value c.calls_fit.ensures)

pub new-requires-clause-head_sums : goal.new-requires-clause-head_sums
new-requires-clause-head_sums c =
    heads_once_fit c.args.heads.items c.requires.heads_once (subst (All (λ (head : Head). head.times < 2 ^ 64)) c.deref-2.ensures.value c.heads_fit.ensures)
