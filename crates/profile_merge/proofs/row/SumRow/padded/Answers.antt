use Rattle.std.proofs.Common.{◌∙◌}
use Rattle.profile_merge.proofs.RowLemmas.{padded_reads}
use Rattle.profile_merge.proofs.row.SumRow.padded.Goals as goal

pub returns-clause-reads : goal.returns-clause-reads
returns-clause-reads c =
    padded_reads c.args.self.now _ _ _ _ c.args.len _ c.requires c.in_ok-sums.ensures.items (c.deref.ensures.value ∙ c.self.view_is)
    c.in_ok-extend_from_slice.ensures.items c.in_ok-resize.ensures.items
