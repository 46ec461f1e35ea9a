use Rattle.inline_tree.proofs.LoopLemmas.{made-same, names-few}
use Rattle.inline_tree.proofs.tree.make.Goals as goal

pub returns-clause-judged : goal.returns-clause-judged
returns-clause-judged c = (
  c.in_ok-gathered.ensures.judged.0,
  made-same _ _ _ _ _ c.in_ok-tree.ensures.names c.in_ok-tree.ensures.members c.in_ok-gathered.ensures.judged.1,
)

pub returns-clause-few_names : goal.returns-clause-few_names
returns-clause-few_names c = names-few _ _ _ c.in_ok-tree.ensures.names c.in_ok-gathered.ensures.few_names
