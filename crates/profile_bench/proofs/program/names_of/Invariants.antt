use Rattle.std.proofs.Common.{◌≤◌, ◌<◌, length}
use Rattle.key_types.specs.Numbers.{IsNumbered}
use Rattle.profile_bench.proofs.program.names_of.Given as goal

abbrev pub invariant-loop-name : goal.invariant-loop-name
invariant-loop-name l = IsNumbered l.made × (0 < length l.made) × (length l.made ≤ l.name)
