use Rattle.command_model.specs.Options.{is_of}
use Rattle.command_words.specs.Words.{told_has}
use Rattle.command_words.proofs.OptionLemmas.{HoldSoFar}
use Rattle.command_words.proofs.options.all_of.Given as goal

abbrev pub invariant-loop-word : goal.invariant-loop-word
invariant-loop-word l = HoldSoFar (is_of (told_has l.has)) l.words l.word-index
