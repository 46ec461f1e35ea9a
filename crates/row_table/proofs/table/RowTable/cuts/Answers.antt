use Rattle.std.proofs.Common.{◌≤◌, List, length, subst}
use Rattle.line_model.specs.Rows.{Sequence}
use Rattle.row_table.specs.Told.{AreCuts, row_count, told}
use Rattle.row_table.proofs.CutLemmas.{are_cuts}
use Rattle.row_table.proofs.table.RowTable.cuts.Goals as goal

pub returns-clause-cuts : goal.returns-clause-cuts
returns-clause-cuts c =
    rw c.deref.ensures.value (subst (λ (ss : List Sequence). AreCuts (told ss) c.self.inside.cuts.items) c.self.view_is (are_cuts _ _ c.self.invariant.2))

pub returns-clause-few : goal.returns-clause-few
returns-clause-few c =
    rw c.deref.ensures.value (subst (λ (ss : List Sequence). length c.self.inside.cuts.items ≤ row_count ss) c.self.view_is c.self.invariant.2.few)
