use Rattle.std.proofs.Common.{sym, ◌∙◌, arith}
use Rattle.profile_merge.proofs.FunctionLemmas.{first_root, other_root}
use Rattle.profile_merge.proofs.functions.count_root.Goals as goal

pub returns-then-branch : goal.returns-then-branch
returns-then-branch c =
    first_root c.args.keys.now c.args.item.now _ _ c.root_of-root.result.0 (omega arith) c.root_of-root.ensures
    (sym c.in_ok-is_first.ensures.first ∙ c.if-branch.true) c.in_ok-is_first.ensures.marked

pub returns-else-branch : goal.returns-else-branch
returns-else-branch c =
    other_root c.args.keys.now c.args.item.now _ _ c.root_of-root.result.0 (omega arith) c.root_of-root.ensures
    (sym c.in_ok-is_first.ensures.first ∙ c.if-branch.false) c.in_ok-is_first.ensures.marked
