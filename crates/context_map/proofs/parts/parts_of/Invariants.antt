use Rattle.std.proofs.Common.{ℕ, drop}
use Rattle.context_map.specs.Maps.{rows_of}
use Rattle.context_map.proofs.PartsLemmas.{PartsSoFar}
use Rattle.context_map.proofs.parts.parts_of.Given as goal

abbrev pub invariant-loop-span : goal.invariant-loop-span
invariant-loop-span l =
    (bound : ℕ)
    × PartsSoFar l.asked (rows_of l.rows) l.rules.base l.members l.rules.most (drop l.span-index l.span-items) l.initial.keys l.keys l.parts.segments.items l.parts.nameless.items bound
