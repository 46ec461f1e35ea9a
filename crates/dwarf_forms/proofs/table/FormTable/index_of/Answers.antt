use Rattle.std.proofs.Common.{◌∙◌}
use Rattle.dwarf_forms.proofs.TableLemmas.{position-searched}
use Rattle.dwarf_forms.proofs.table.FormTable.index_of.Goals as goal

pub returns : goal.returns
returns g c =
    c.ok.ensures.value ∙ position-searched c.args.self.now.codes c.args.code c.binary_search.result c.requires c.binary_search.ensures.position
