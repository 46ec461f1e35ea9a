use Rattle.std.proofs.Common.{ℕ, drop}
use Rattle.row_table.specs.Told.{told}
use Rattle.context_map.proofs.PartLemmas.{SoFar}
use Rattle.context_map.proofs.segments.push_segments.Given as goal

abbrev pub invariant-loop-cut : goal.invariant-loop-cut
invariant-loop-cut l =
    (at : ℕ)
    × SoFar (told l.table) l.rules.base l.named l.span.lo l.span.hi l.rules.most (drop l.cut-index l.cut-items) l.part.lo l.row l.initial.keys l.keys l.initial.segments.items l.segments.items at
