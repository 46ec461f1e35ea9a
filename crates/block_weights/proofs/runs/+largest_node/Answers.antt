use Rattle.std.proofs.Common.{◌≡◌, ◌-◌, ◌/◌, max, arith, sym, ◌∙◌}
use Rattle.std.specs.Prelude.{slice_index}
use Rattle.block_weights.proofs.LargestLemmas.{largest-halved, largest-last}
use Rattle.block_weights.proofs.runs.+largest_node.Goals as goal

pub returns-then-end-eq1 : goal.returns-then-end-eq1
returns-then-end-eq1 t c =
    let tree = c.args.tree.now in
    let last = largest-last tree c.args.first (c.args.end - 1) c.args.end (omega arith) (omega arith) in
    let larger : c.max-then-end-eq1.result ≡ max (slice_index tree (c.args.end - 1)) c.largest_node-then-end-eq1.result = c.max-then-end-eq1.ensures in
    omega (arith, last, larger, c.largest_node-then-end-eq1.ensures)

pub returns : goal.returns
returns t c =
    c.largest_node-2.ensures
    ∙ sym (largest-halved c.args.tree.now c.args.runs c.args.first c.args.end (c.args.first / 2) (c.args.end / 2) c.requires.pairs (omega arith) (omega arith) (omega arith) (omega arith))
