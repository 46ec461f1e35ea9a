use Rattle.std.specs.Prelude.{◌-ℤ◌}
use Rattle.path_search.specs.Ground.{price_at}
use Rattle.flow_balance.specs.Answer.{IsEveryOther}
use Rattle.flow_balance.proofs.answer.above_root.Given as goal

abbrev pub invariant-loop-block : goal.invariant-loop-block
invariant-loop-block l =
    IsEveryOther (λ side. price_at l.prices side -ℤ price_at l.prices 0) l.first l.block l.list.items
