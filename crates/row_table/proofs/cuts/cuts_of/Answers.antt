use Rattle.std.proofs.lemmas.List.Filters.{dedup_is}
use Rattle.row_table.proofs.CutLemmas.{have_addresses}
use Rattle.row_table.proofs.cuts.cuts_of.Goals as goal

pub returns : goal.returns
returns c =
    have_addresses _ _ _ _ c.in_ok-addresses.ensures c.sort.ensures.permuted c.sort.ensures.sorted (dedup_is _ _ _ c.dedup.ensures.filtered)
