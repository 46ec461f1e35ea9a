use Rattle.std.proofs.Common.{◌≡◌}
use Rattle.command_words.proofs.CommandLemmas.{Counted}
use Rattle.command_words.proofs.command.option_count.Given as goal

abbrev pub invariant-loop-word : goal.invariant-loop-word
invariant-loop-word l = record { same : l.count ≡ l.word-index; counted : Counted l.words l.count }
