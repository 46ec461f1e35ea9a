use Rattle.std.proofs.Common.{◌≡◌, ◌++◌, take}
use Rattle.std.specs.List.{flat_map}
use Rattle.profile_model.specs.Summary.{cutoff_text, cutoffs}
use Rattle.profile_merge.proofs.text.push_cutoffs.Given as goal

-- The lines of the cutoffs up to here were appended.
abbrev pub invariant-loop-cutoff : goal.invariant-loop-cutoff
invariant-loop-cutoff l = l.out.items ≡ l.initial.out.items ++ flat_map (cutoff_text l.counts) (take l.cutoff-index cutoffs)
