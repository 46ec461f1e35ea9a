use Rattle.std.proofs.Common.{◌≡◌, take, false}
use Rattle.tree_model.specs.Way.{is_passed_over}
use Rattle.entry_facts.proofs.way.lies_in_any.Given as goal

-- The units up to here do not hold the offset.
abbrev pub invariant-loop-start : goal.invariant-loop-start
invariant-loop-start l = is_passed_over (take l.start-index l.extents) l.at ≡ false
