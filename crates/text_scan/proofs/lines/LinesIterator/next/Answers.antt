-- An empty rest has no line.
use Rattle.std.proofs.Common.{◌≡◌, ◌+◌, [], ap, sym, ◌∙◌}
use Rattle.std.specs.List.{enumerate_from}
use Rattle.text_model.proofs.LineLemmas.{lines_of-empty}
use Rattle.text_scan.proofs.lines.LinesIterator.next.Goals as goal

pub returns-then-is_empty-clause-steps : goal.returns-then-is_empty-clause-steps
returns-then-is_empty-clause-steps c =
    let none : c.args.self.now ≡ [] = sym c.self.view_is
    ∙ ap (enumerate_from (c.self.inside.taken + 1)) (lines_of-empty _ (sym c.if-is_empty.ensures)) in
    (none, none)
