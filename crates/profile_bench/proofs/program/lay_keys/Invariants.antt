use Rattle.std.proofs.Common.{◌≤◌, ◌*◌, length}
use Rattle.profile_bench.specs.Laid.{AreLaid}
use Rattle.profile_bench.proofs.program.lay_keys.Given as goal

abbrev pub invariant-loop-number : goal.invariant-loop-number
invariant-loop-number l =
    AreLaid (length l.names) (l.number * 16) l.laid.keys l.laid.segments.items × (length l.laid.keys ≤ l.number)
