use Rattle.span_cover.proofs.JoinLemmas.{joined-stretches, joined-owner}
use Rattle.span_cover.proofs.stretches.Stretches.make.Goals as goal

pub invariant_of-result : goal.invariant_of-result
invariant_of-result c = (joined-stretches _ _ c.requires c.in_ok-spans.ensures, tt)

pub returns : goal.returns
returns c = λ a. joined-owner _ _ a c.requires c.in_ok-spans.ensures
