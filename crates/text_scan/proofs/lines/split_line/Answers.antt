-- The first line feed ends the first line, and a text without one is one line.
use Rattle.std.proofs.Common.{◌≡◌, length, ◌+◌, ◌-◌, arith, take, drop, length-drop}
use Rattle.std.proofs.lemmas.List.{take_all, drop_all}
use Rattle.text_model.proofs.LineLemmas.{lines_of-first, lines_of-whole, lines_of-nil}
use Rattle.text_scan.proofs.lines.split_line.Goals as goal

pub returns-in-Some-clause-first : goal.returns-in-Some-clause-first
returns-in-Some-clause-first c =
    let text = c.args.text.now in
    let end = c.in-Some.end in
    let rest : take (length text - (end + 1)) (drop (end + 1) text) ≡ drop (end + 1) text =
    take_all _ _ (omega (arith, length-drop (end + 1) text)) in
    rw rest (lines_of-first text end c.in-Some.ensures.0.high
    (λ k below within. c.in-Some.ensures.0.before k (omega arith) below) c.in-Some.ensures.1)

pub returns-in-None-clause-first : goal.returns-in-None-clause-first
returns-in-None-clause-first c =
    let text = c.args.text.now in
    rw (
      c.split_at.ensures.front,
      c.split_at.ensures.back,
      take_all (length text) text (omega arith),
      drop_all (length text) text (omega arith),
      lines_of-nil,
    )
    (lines_of-whole text c.requires (λ k within. c.in-None.ensures k (omega arith) within))
