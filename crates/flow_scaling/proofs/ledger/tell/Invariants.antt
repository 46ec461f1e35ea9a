use Rattle.std.proofs.Common.{◌≡◌, ◌+◌}
use Rattle.flow_scaling.proofs.ledger.tell.Given as goal

abbrev pub invariant-loop : goal.invariant-loop
invariant-loop g l = g.L.Ledger.ticks l.ledger ≡ g.L.Ledger.ticks l.fn.ledger + l.counter
