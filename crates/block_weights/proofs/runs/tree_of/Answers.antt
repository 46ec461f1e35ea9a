use Rattle.std.proofs.Common.{ℕ, arith, subst, ◌∙◌}
use Rattle.block_weights.specs.Largest.{ArePairs}
use Rattle.block_weights.proofs.runs.tree_of.Goals as goal

pub returns : goal.returns
returns c = record {
  pairs = subst (λ (leaves : ℕ). ArePairs leaves c.push_pairs.new.tree.items) c.in_ok-tree.ensures.each c.in_ok-push_pairs.ensures.pairs;
  leaves = λ run below. c.in_ok-push_pairs.ensures.kept run (omega (arith, below, c.in_ok-tree.ensures.each)) ∙ c.in_ok-tree.ensures.largest run below;
}
