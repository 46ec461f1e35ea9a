use Rattle.std.proofs.Common.{add-one, ap, ◌∙◌}
use Rattle.std.specs.Prelude.{slice_get}
use Rattle.row_table.proofs.IndexLemmas.{RangesSoFar-more, first_row}
use Rattle.row_table.proofs.table.ranges_of.Goals as goal

pub loop-owner-preserved : goal.loop-owner-preserved
loop-owner-preserved c =
    let rows = first_row c.sequence.inside.rows.items c.in-Some.first.now (c.in-Some.ensures.value ∙ ap (λ rs. slice_get rs 0) c.deref.ensures.value) in
    rw (add-one, c.in_ok-push.ensures.items)
    (RangesSoFar-more _ _ _ (record { rows = c.sequence.inside.rows.items; end = c.sequence.inside.end }) c.index-sequences-owner.result _ _ c.loop-owner.invariant c.loop-owner-test.true (c.sequence.view_is ∙ c.index-sequences-owner.is) rows)
