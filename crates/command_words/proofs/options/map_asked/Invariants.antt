use Rattle.command_words.proofs.OptionLemmas.{UnnamedSoFar}
use Rattle.command_words.proofs.options.map_asked.Given as goal

abbrev pub invariant-loop-word : goal.invariant-loop-word
invariant-loop-word l = UnnamedSoFar l.words l.word-index
