use Rattle.std.proofs.Common.{◌≡◌, ◌<◌, [], length, arith}
use Rattle.std.proofs.lemmas.Grind.{common_steps}
use Rattle.branch_stacks.proofs.FeedLemmas.{Finishes-closed, Finishes-line}
use Rattle.branch_stacks.proofs.reader.Reader.end_text.Goals as goal

pub returns-then-is_empty-clause-judged : goal.returns-then-is_empty-clause-judged
returns-then-is_empty-clause-judged c =
    let none : c.args.self.now.held ≡ [] = grind (arith, common_steps) in
    Finishes-closed _ _ none

pub returns-clause-judged : goal.returns-clause-judged
returns-clause-judged c =
    let some : 0 < length c.args.self.now.held = grind (arith, common_steps) in
    Finishes-line _ _ _ _ _ some c.end_held_line.ensures.judged c.end_held_line.ensures.err
