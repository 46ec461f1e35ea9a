use Rattle.flow_balance.proofs.StateLemmas.{all_even, started}
use Rattle.flow_balance.proofs.within.solve_in.Goals as goal

pub least-requires : goal.least-requires
least-requires c = (_, all_even _ _ _ _ (started _ _ _ _ c.start.ensures c.requires.prices) (c.is_even.ensures c.if-is_even.true))
