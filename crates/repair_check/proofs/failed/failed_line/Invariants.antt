use Rattle.std.proofs.Common.{◌≡◌, ◌≤◌, length, map, take, None}
use Rattle.cfg_text.specs.Fun.{function_of}
use Rattle.repair_model.specs.Checking as model
use Rattle.repair_text.specs.Repair.{numbered}
use Rattle.repair_check.proofs.failed.failed_line.Given as goal

-- No line of the repairs so far fails.
abbrev pub invariant-loop-at : goal.invariant-loop-at
invariant-loop-at l = model.failed_line (take l.at (map function_of l.funs)) (take l.at (map numbered l.repairs)) ≡ None
