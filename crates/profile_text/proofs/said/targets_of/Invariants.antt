use Rattle.std.proofs.Common.{◌≡◌, map}
use Rattle.profile_model.specs.Reading as model
use Rattle.profile_text.specs.Said.{pair_of}
use Rattle.profile_text.proofs.TargetLemmas.{after}
use Rattle.profile_text.proofs.said.targets_of.Given as goal

-- The targets of all words are those that were read, and those of the words that are left.
abbrev pub invariant-loop-word : goal.invariant-loop-word
invariant-loop-word l = model.targets_of l.fn.words ≡ after (map pair_of l.targets.items) (model.targets_of l.words)
