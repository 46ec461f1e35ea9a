use Rattle.std.proofs.Common.{ℕ, List, take, Some, ap, sym, ◌∙◌, arith, length-drop}
use Rattle.std.proofs.lemmas.List.{take_all}
use Rattle.branch_lines.proofs.LoadLineLemmas.{parts_at-found, parts_at-none}
use Rattle.branch_lines.proofs.load.split_at.Goals as goal

pub returns-in_err-at : goal.returns-in_err-at
returns-in_err-at c =
    let none = rw c.in_err-at.was at c.memchr.ensures in
    rw c.from_residual.ensures (parts_at-none c.args.byte c.args.text.now none)

pub returns : goal.returns
returns c =
    let found = rw c.in_ok-at.was at c.memchr.ensures in
    let text = c.args.text.now in
    let at = c.in_ok-at.at in
    parts_at-found c.args.byte text at found
    ∙ ap (λ (t : List ℕ). Some (take at text, t)) (sym (take_all _ _ (omega (arith, length-drop {A = ℕ}))))
