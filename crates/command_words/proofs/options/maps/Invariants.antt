use Rattle.command_model.specs.Options.{is_map}
use Rattle.command_words.proofs.OptionLemmas.{CountedSoFar}
use Rattle.command_words.proofs.options.maps.Given as goal

abbrev pub invariant-loop-word : goal.invariant-loop-word
invariant-loop-word l = CountedSoFar is_map l.words l.word-index l.count
