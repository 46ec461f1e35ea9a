use Rattle.std.proofs.Common.{◌≡◌, ◌+◌, ◌*◌, ◌<◌, ℕ, List, max, arith, length, subst, sym, ◌∙◌}
use Rattle.std.specs.Prelude.{slice_index}
use Rattle.std.proofs.lemmas.List.{get_or_default}
use Rattle.block_weights.proofs.TreeLemmas.{PairsSoFar, PairsSoFar-all, PairsSoFar-more, PairsSoFar-none}
use Rattle.block_weights.proofs.runs.push_pairs.Goals as goal

pub loop-pair-init : goal.loop-pair-init
loop-pair-init c = PairsSoFar-none _

pub loop-pair-preserved : goal.loop-pair-preserved
loop-pair-preserved c =
    let tree = c.loop-pair.tree.items in
    let pair = c.loop-pair.pair in
    let more : pair + 1 < length c.args.tree.now.items = omega arith in
    let one : c.index.result.now ≡ slice_index tree (2 * pair) =
    c.index.ensures ∙ get_or_default tree (2 * pair) c.index.result.now 0 (omega (arith, more, c.loop-pair.invariant.size)) in
    let other : c.index-in-loop-pair.result.now ≡ slice_index tree (2 * pair + 1) =
    c.index-in-loop-pair.ensures
    ∙ get_or_default tree (2 * pair + 1) c.index-in-loop-pair.result.now 0 (omega (arith, more, c.loop-pair.invariant.size)) in
    let larger : c.max-larger.result ≡ max (slice_index tree (2 * pair)) (slice_index tree (2 * pair + 1)) =
    omega (arith, c.max-larger.ensures, one, other) in
    subst (λ (items : List ℕ). PairsSoFar c.args.tree.now.items (pair + 1) items) (sym c.in_ok-push.ensures.items)
    (PairsSoFar-more c.args.tree.now.items tree pair c.max-larger.result c.loop-pair.invariant more larger)

pub returns-clause-pairs : goal.returns-clause-pairs
returns-clause-pairs c = PairsSoFar-all _ _ _ c.loop-pair.invariant (omega arith)
