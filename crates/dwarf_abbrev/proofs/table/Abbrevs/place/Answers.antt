use Rattle.std.proofs.Common.{List, sym, ap, ◌∙◌}
use Rattle.std.specs.Prelude.{◌==◌, position}
use Rattle.unit_model.specs.Abbrev.{Abbrev}
use Rattle.dwarf_abbrev.proofs.RowLemmas.{place-is}
use Rattle.dwarf_abbrev.proofs.table.Abbrevs.place.Goals as goal

pub returns : goal.returns
returns c =
    c.place.ensures ∙ sym (place-is c.self.inside.rows c.args.code c.self.invariant)
    ∙ ap (λ (t : List Abbrev). position (λ (a : Abbrev). a.code == c.args.code) t) c.self.view_is
