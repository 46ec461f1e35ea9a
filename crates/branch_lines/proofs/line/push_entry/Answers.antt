use Rattle.std.proofs.Common.{◌≡◌, Some, rules, arith}
use Rattle.sample_model.specs.Line.{entry_of}
use Rattle.branch_lines.proofs.LineLemmas.{kept-push, kept-full}
use Rattle.branch_lines.proofs.line.push_entry.Goals as goal

pub returns-then-len-lt-MAX_KEPT-clause-read : goal.returns-then-len-lt-MAX_KEPT-clause-read
returns-then-len-lt-MAX_KEPT-clause-read c =
    let is : entry_of c.args.field.now ≡ Some c.in_ok-branch.branch = search rules in
    (c.in_ok-branch.branch, is, λ _. rw c.push_reserved.ensures.items (kept-push _ _ (omega arith)))

pub returns-else-len-lt-MAX_KEPT-clause-read : goal.returns-else-len-lt-MAX_KEPT-clause-read
returns-else-len-lt-MAX_KEPT-clause-read c =
    let is : entry_of c.args.field.now ≡ Some c.in_ok-branch.branch = search rules in
    (c.in_ok-branch.branch, is, λ whole. kept-full _ _ (omega arith) whole)
