use Rattle.std.proofs.Common.{sym, ◌∙◌}
use Rattle.dwarf_abbrev.proofs.RowLemmas.{found-at, found-none}
use Rattle.dwarf_abbrev.proofs.table.Abbrevs.find.Goals as goal

pub returns-in_err-place : goal.returns-in_err-place
returns-in_err-place c = c.from_residual.ensures ∙ sym (found-none _ c.args.code (sym c.in_err-place.ensures))

pub returns : goal.returns
returns c = sym (found-at _ c.args.code c.in_ok-place.place _ (sym c.in_ok-place.ensures) c.at.ensures)
