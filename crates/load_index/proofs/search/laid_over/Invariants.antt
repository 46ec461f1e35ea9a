use Rattle.std.proofs.Common.{◌≡◌, ◌≤◌, ◌++◌, length, reverse}
use Rattle.load_index.specs.Spans.{newest_first}
use Rattle.load_index.proofs.search.laid_over.Given as goal

abbrev pub invariant-loop-load : goal.invariant-loop-load
invariant-loop-load l =
    (l.spans.items ++ newest_first l.first (reverse l.rest) ≡ newest_first l.first (reverse l.loads))
    × (length l.rest ≤ length l.loads)

abbrev pub decreases-loop-load : goal.decreases-loop-load
decreases-loop-load l = length l.rest
