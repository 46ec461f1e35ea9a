use Rattle.std.proofs.Common.{◌≡◌, ◌≤◌, length, take, vec_capacity}
use Rattle.sample_model.specs.Moves.{moved_branch}
use Rattle.branch_stacks.specs.Loads.{map_in}
use Rattle.branch_stacks.proofs.LoadLemmas.{MovedSoFar}
use Rattle.branch_stacks.proofs.loads.Loads.move_branches.Given as goal

abbrev pub invariant-loop-from : goal.invariant-loop-from
invariant-loop-from l =
    MovedSoFar (moved_branch l.initial.self.segments l.initial.self.met) (take l.from-index l.branches) l.self.branches.items l.self.ranges.items l.newer
    × (map_in l.self ≡ map_in l.initial.self)
    × (l.self.met ≡ l.initial.self.met)
    × (length l.self.branches.items ≤ l.from-index)
    × (length l.self.ranges.items ≤ l.from-index)
    × (length l.branches ≤ vec_capacity l.self.branches)
    × (length l.branches ≤ vec_capacity l.self.ranges)
