-- The first slash ends the front, and a text without one is all front.
use Rattle.std.proofs.Common.{◌≡◌, ◌+◌, ◌-◌, length, take, drop, sym, arith}
use Rattle.std.proofs.lemmas.List.{take_all, drop_all, length-drop}
use Rattle.branch_lines.proofs.LineLemmas.{first_slash, no_slash}
use Rattle.branch_lines.proofs.line.split_at_slash.Goals as goal

pub returns-in-Some-clause-front : goal.returns-in-Some-clause-front
returns-in-Some-clause-front c = rw (first_slash _ _ c.in-Some.ensures)

pub returns-in-Some-clause-back : goal.returns-in-Some-clause-back
returns-in-Some-clause-back c =
    let text = c.args.text.now in
    let slash = c.in-Some.slash in
    let rest : take (length text - (slash + 1)) (drop (slash + 1) text) ≡ drop (slash + 1) text = take_all _ _ (omega (arith, length-drop (slash + 1) text)) in
    rw (rest, first_slash _ _ c.in-Some.ensures)

pub returns-in-None-clause-front : goal.returns-in-None-clause-front
returns-in-None-clause-front c = rw (no_slash _ c.in-None.ensures) (sym (take_all (length c.args.text.now) c.args.text.now (omega arith)))

pub returns-in-None-clause-back : goal.returns-in-None-clause-back
returns-in-None-clause-back c = rw (no_slash _ c.in-None.ensures) (sym (drop_all (length c.args.text.now + 1) c.args.text.now (omega arith)))
