use Rattle.std.proofs.Common.{ℕ, ◌-◌, ◌≤◌, length}
use Rattle.std.specs.Prelude.{pos, ◌≤ℤ◌}
use Rattle.path_search.specs.Ground.{price_at}
use Rattle.path_search.specs.Search.{distance_at, settled_count}
use Rattle.path_search.specs.Task.{task_on}
use Rattle.path_search.specs.Found.{HasComeTo}
use Rattle.path_search.proofs.walk.Search.walk.Given as goal

abbrev pub invariant-loop-self : goal.invariant-loop-self
invariant-loop-self l = record {
  come : HasComeTo (task_on l.ground l.source) l.self l.next.0 l.next.1;
  enough : pos 0 ≤ℤ price_at l.ground.excess.now l.next.0;
  nearer : (other : ℕ) → distance_at l.self.marks other ≤ distance_at l.fn.self.marks other;
}

abbrev pub decreases-loop-self : goal.decreases-loop-self
decreases-loop-self l = length l.ground.prices.now - settled_count l.self.marks
