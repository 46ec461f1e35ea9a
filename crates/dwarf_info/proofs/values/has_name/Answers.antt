use Rattle.std.proofs.Common.{List, ap, ◌∙◌}
use Rattle.std.specs.Prelude.{◌==◌, find, is_some}
use Rattle.unit_model.specs.Values.{Found}
use Rattle.dwarf_info.proofs.ValueLemmas.{has_name-from}
use Rattle.dwarf_info.proofs.values.has_name.Goals as goal

pub returns : goal.returns
returns c =
    c.is_some.ensures ∙ ap is_some c.of_name.ensures
    ∙ ap (λ (fs : List Found). is_some (find (λ (other : Found). other.name == c.args.name) fs)) c.slice.ensures
    ∙ has_name-from c.args.found.now c.args.first c.len.result c.args.name c.len.ensures
