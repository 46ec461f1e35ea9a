use Rattle.std.proofs.Common.{[], ◌∷◌, ◌++◌, ap, ◌∙◌}
use Rattle.unit_model.specs.Abbrev.{Abbrev}
use Rattle.dwarf_info.proofs.TellingLemmas.{kinds-more}
use Rattle.dwarf_info.proofs.kinds.kinds_of.Goals as goal

pub loop-index-preserved : goal.loop-index-preserved
loop-index-preserved c =
    c.in_ok-push.ensures.items ∙ ap (λ (k : Abbrev). c.loop-index.kinds.items ++ k ∷ []) c.in_ok-kind.ensures
    ∙ kinds-more c.args.table.now c.loop-index.kinds.items c.loop-index.index c.at.result c.loop-index.invariant c.at.ensures
