use Rattle.std.specs.Str.{bytes_eq}
use Rattle.command_words.proofs.OptionLemmas.{CountedSoFar}
use Rattle.command_words.proofs.options.times_of.Given as goal

abbrev pub invariant-loop-word : goal.invariant-loop-word
invariant-loop-word l = CountedSoFar (λ word. bytes_eq word l.option) l.words l.word-index l.count
