use Rattle.merge_maker.proofs.MergeLemmas.{merge_none}
use Rattle.merge_maker.proofs.merge.Merge.new.Goals as goal

pub returns : goal.returns
returns c = merge_none _ _ _ c.in_ok-new.ensures c.in_ok-new-2.ensures c.in_ok-new-3.ensures
