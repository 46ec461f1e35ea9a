-- What `position` finds is where the first field begins and ends.
use Rattle.std.proofs.Common.{◌-◌, length, drop, take, sym, ◌∙◌, arith, length-drop}
use Rattle.std.proofs.lemmas.List.{take_all}
use Rattle.text_model.proofs.FieldLemmas.{no_filled_is, fields_of-split}
use Rattle.text_scan.proofs.fields.split_field.Goals as goal

pub returns-in_err-line : goal.returns-in_err-line
returns-in_err-line c =
    rw c.from_residual.ensures (no_filled_is c.args.line.now (sym c.first_filled.ensures ∙ c.in_err-line.was))

pub returns : goal.returns
returns c =
    let start = c.in_ok-line.field-0 in
    let line = c.args.line.now in
    let part = take (length line - start) (drop start line) in
    rw (c.split_at.ensures.front, c.split_at.ensures.back)
    (fields_of-split line part start c.unwrap_or-end.result
    (sym c.first_filled.ensures ∙ c.in_ok-line.was)
    (take_all _ _ (omega (arith, length-drop start line)))
    (rw c.first_blank.ensures at c.unwrap_or-end.ensures))
