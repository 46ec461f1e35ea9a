use Rattle.std.proofs.Common.{◌≡◌, ◌++◌, drop}
use Rattle.elf_sections.specs.Reach.{reaches_from}
use Rattle.elf_sections.proofs.reach.rising.Given as goal

-- What is made so far, and what the segments that are left make.
abbrev pub invariant-loop-load : goal.invariant-loop-load
invariant-loop-load l =
    l.reaches.items ++ reaches_from l.farthest (drop l.load-index l.loads) ≡ reaches_from 0 l.loads
